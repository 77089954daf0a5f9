-- Where the next event of a walk doesn't agree, its ticket is the least at fault, and the first object that has it next is the
-- first whose event is.
use Rattle.std.proofs.Common.{◌≡◌, ◌⊎◌, ◌<◌, ℕ, Bool, true, false, List, [], ◌∷◌, map, Contains, refl, sym, subst, inl, inr, ⊎_elim, arith}
use Rattle.std.proofs.lemmas.Bool.{both_ways}
use Rattle.bep_facts.specs.Decided.{same_or_not}
use Rattle.bep_facts.specs.Members.{Contains-cons_cases, Contains-first, Contains-more, not_in_none}
use Rattle.bep_fit.specs.contracts.stamped.Stamped as stamped_row
use Rattle.bep_fit.specs.declared.object.Object.{Object}
use Rattle.bep_fit.specs.declared.stamped.Stamped.{Stamped}
use Rattle.bep_fit.specs.Fit.{AreFaultlessAt, IsAtFault, IsFirst}
use Rattle.bep_fit.specs.Logs.{ObjectLog, touches}
use Rattle.bep_fit.specs.Merge.{Rises}
use Rattle.bep_fit.specs.Walk.{AgreesNext, AllRise, ComesNext, IsAt, IsFirstAt, IsNext, IsWalked, Left, WalkFails}
use Rattle.bep_fit.proofs.Deciding.{stands_or_not}
use Rattle.bep_fit.proofs.Faultless.{rises_not_fall, ticket_of}
use Rattle.bep_fit.proofs.Rising.{rises-one}
use Rattle.bep_fit.proofs.SomeVerdict.{IsWrong, has_log_or_not, wrong_or_not}
use Rattle.bep_fit.proofs.WalkFacts.{done_below, done_or_left, done_stands, left_not_below, left_rises, left_stands, log_there, next_stands, of_walk}

module _ (logs : List ObjectLog) (walk : List Left) (done : List Stamped) (walked : IsWalked logs walk done) where
  -- what stands in a log is done, and touches it, or is left of it
  found_in : (log : ObjectLog) → Contains logs log → (one : Stamped) → Contains log.events one →
      (Contains done one × (touches one log ≡ true)) ⊎ ((at : Left) × Contains walk at × (at.log ≡ log) × Contains at.events one)
  found_in log there one stands =
      let at = of_walk logs walk done walked log there in
      ⊎_elim
      (λ is. inl (is.0, subst (λ l. touches one l ≡ true) at.2 is.1))
      (λ left. inr (at.0, at.1, at.2, left))
      (done_or_left logs walk done walked at.0 at.1 one (subst (λ (l : ObjectLog). Contains l.events one) (sym at.2) stands))

  -- an event with the ticket of one that is done is that one
  same_as_done : (one : Stamped) → Contains done one → (log : ObjectLog) → Contains logs log → (other : Stamped) → Contains log.events other → other.ticket ≡ one.ticket → (other ≡ one) × (touches one log ≡ true)
  same_as_done one is log there other stands same =
      ⊎_elim
      (λ too. let equal = rises-one ticket_of done walked.rises other one too.0 is same in (equal, subst (λ (e : Stamped). touches e log ≡ true) equal too.1))
      (λ left. let above = walked.below left.0 one other left.1 is left.3 in absurd (omega (arith, above, same)))
      (found_in log there other stands)

  done_right : (one : Stamped) → Contains done one → ¬ IsWrong logs one
  done_right one is (inl (inl missing)) = missing.2 (walked.there one missing.0 is missing.1)
  done_right one is (inl (inr missing)) =
      let at = of_walk logs walk done walked missing.0 missing.1 in
      missing.3 (subst (λ (l : ObjectLog). Contains l.events one) at.2 (done_stands logs walk done walked at.0 at.1 one is (subst (λ l. touches one l ≡ true) (sym at.2) missing.2)))
  done_right one is (inr (inl wrong)) = wrong.5 (same_as_done one is wrong.0 wrong.2 wrong.1 wrong.3 wrong.4).0
  done_right one is (inr (inr wrong)) = both_ways (touches one wrong.0) wrong.5 (same_as_done one is wrong.0 wrong.2 wrong.1 wrong.3 wrong.4).1

  module _ (rise : AllRise logs) (event : Stamped) (next : IsNext walk event) where
    -- nothing is at fault under a lower ticket
    none_below : (lower : ℕ) → lower < event.ticket → AreFaultlessAt logs lower
    none_below lower below log there (inl falls) = rises_not_fall log.events (rise log there) lower falls
    none_below lower below log there (inr wrong) =
        ⊎_elim
        (λ is. done_right wrong.0 is.0 wrong.3)
        (λ left. let above = left_not_below logs walk done walked rise event next left.0 left.1 wrong.0 left.3 in omega (arith, above, below, wrong.2))
        (found_in log there wrong.0 wrong.1)

    -- what is left and has the event's ticket comes next
    has_it_next : (one : Left) → Contains walk one → (other : Stamped) → Contains one.events other → other.ticket ≡ event.ticket → (more : List Stamped) × (one.events ≡ other ∷ more)
    has_it_next one there other left same = at one.events refl (left_rises logs walk done walked rise one there) left
      where
        at : (events : List Stamped) → one.events ≡ events → Rises ticket_of events → Contains events other → (more : List Stamped) × (one.events ≡ other ∷ more)
        at [] are rises stands = absurd (not_in_none other stands)
        at (first ∷ more) are rises stands =
            ⊎_elim
            (λ is. (more, subst (λ z. one.events ≡ z ∷ more) is are))
            (λ later. absurd (let above = rises.0 other later in let least = next.least one first more there are in omega (arith, above, least, same)))
            (Contains-cons_cases first more other stands)

    -- ---- an event that is right agrees

    module _ (right : ¬ IsWrong logs event) where
      stands_in : (one : Left) → Contains walk one → touches event one.log ≡ true → Contains one.log.events event
      stands_in one there touching =
          ⊎_elim
          (λ stands. stands)
          (λ lacks. absurd (right (inl (inr (one.log, log_there logs walk done walked one there, touching, lacks)))))
          (stands_or_not (stamped_row.the_row).coded one.log.events event)

      comes_next : (one : Left) → Contains walk one → touches event one.log ≡ true → (more : List Stamped) × (one.events ≡ event ∷ more)
      comes_next one there touching =
          ⊎_elim
          (λ is. absurd (let below = done_below logs walk done walked rise event next event is.0 in omega (arith, below)))
          (λ left. has_it_next one there event left refl)
          (done_or_left logs walk done walked one there event (stands_in one there touching))

      comes : (one : Left) → Contains walk one → (b : Bool) → touches event one.log ≡ b → ComesNext event b one.events
      comes one there true touching = let first = comes_next one there touching in subst (ComesNext event true) (sym first.1) refl
      comes one there false untouched = at one.events refl
        where
          at : (events : List Stamped) → one.events ≡ events → ComesNext event false events
          at [] are = tt
          at (first ∷ more) are = λ same. right (inr (inr (one.log, first, log_there logs walk done walked one there, left_stands logs walk done walked one there first (subst (λ es. Contains es first) (sym are) (Contains-first first more)), same, untouched)))

      agrees_next : AgreesNext logs walk event
      agrees_next = record {
        next = λ one there. comes one there (touches event one.log) refl;
        there = λ object names. ⊎_elim (λ has. has) (λ lacks. absurd (right (inl (inl (object, names, lacks))))) (has_log_or_not logs object);
      }

    -- ---- one that is wrong

    module _ (wrong : IsWrong logs event) where
      -- each object that has the ticket next is at fault
      is_at_fault : (one : Left) → Contains walk one → IsAt event.ticket one.events → IsAtFault logs event.ticket one.log
      is_at_fault one there has = at one.events refl has
        where
          of_first : (first : Stamped) → Contains one.log.events first → first.ticket ≡ event.ticket → IsAtFault logs event.ticket one.log
          of_first first stands same =
              ⊎_elim
              (λ is. inr (first, stands, same, subst (IsWrong logs) is wrong))
              (λ differs. inr (first, stands, same, inr (inl (next.some.0.log, event, log_there logs walk done walked next.some.0 next.some.2, next_stands logs walk done walked rise event next, sym same, differs))))
              (same_or_not (stamped_row.the_row).coded event first)

          at : (events : List Stamped) → one.events ≡ events → IsAt event.ticket events → IsAtFault logs event.ticket one.log
          at [] are none = absurd none
          at (first ∷ more) are same = of_first first (left_stands logs walk done walked one there first (subst (λ es. Contains es first) (sym are) (Contains-first first more))) same

    -- no other object has an event with the ticket
    isnt_at_fault : (one : Left) → Contains walk one → ¬ IsAt event.ticket one.events → ¬ IsAtFault logs event.ticket one.log
    isnt_at_fault one there lacks (inl falls) = rises_not_fall one.log.events (rise one.log (log_there logs walk done walked one there)) event.ticket falls
    isnt_at_fault one there lacks (inr found) =
        ⊎_elim
        (λ is. let below = done_below logs walk done walked rise event next found.0 is.0 in omega (arith, below, found.2))
        (λ left. let first = has_it_next one there found.0 left found.2 in lacks (subst (IsAt event.ticket) (sym first.1) found.2))
        (done_or_left logs walk done walked one there found.0 found.1)

    first_at_fault : IsWrong logs event → (object : Object) (ws : List Left) → ((one : Left) → Contains ws one → Contains walk one) → IsFirstAt event.ticket ws object → IsFirst (IsAtFault logs event.ticket) (map (λ (l : Left). l.log) ws) object
    first_at_fault wrong object [] among first = first
    first_at_fault wrong object (one ∷ more) among (inl here) = inl (is_at_fault wrong one (among one (Contains-first one more)) here.0, here.1)
    first_at_fault wrong object (one ∷ more) among (inr later) =
        inr (isnt_at_fault one (among one (Contains-first one more)) later.0, first_at_fault wrong object more (λ z there. among z (Contains-more one more z there)) later.1)

pub walk_fails : WalkFails
walk_fails logs walk done event object rise rounds walked next disagrees first =
    ⊎_elim
    (λ wrong. record {
      rounds = rounds;
      first = subst (λ ls. IsFirst (IsAtFault logs event.ticket) ls object) walked.logs_of (first_at_fault logs walk done walked rise event next wrong object walk (λ one there. there) first);
      least = none_below logs walk done walked rise event next;
    })
    (λ right. absurd (disagrees (agrees_next logs walk done walked rise event next right)))
    (wrong_or_not logs event)
