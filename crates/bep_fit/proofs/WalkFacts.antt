-- Lists that rise, and walks: what is done, what is left, and what comes next.
use Rattle.std.proofs.Common.{◌≡◌, ◌≢◌, ◌⊎◌, ◌<◌, ◌≤◌, ◌==◌, ℕ, Bool, true, false, cond, List, [], ◌∷◌, ◌++◌, Contains, refl, sym, ap, subst, inl, inr, ⊎_elim, arith}
use Rattle.std.proofs.lemmas.Bool.{cases_eq, eq-eqb, ne_eqb}
use Rattle.std.proofs.lemmas.List.Elements.{Contains-append_cases, Contains-append_left, Contains-append_right}
use Rattle.std.specs.List.{filter}
use Rattle.bep_facts.specs.Members.{Contains-cons_cases, Contains-first, Contains-from_image, Contains-image, Contains-more, Contains-one, not_in_none}
use Rattle.bep_fit.specs.declared.stamped.Stamped.{Stamped}
use Rattle.bep_fit.specs.Logs.{ObjectLog, touches}
use Rattle.bep_fit.specs.Merge.{Rises}
use Rattle.bep_fit.specs.Walk.{AllRise, IsNext, IsWalked, Left, past}
use Rattle.bep_fit.proofs.Faultless.{ticket_of}
use Rattle.bep_fit.proofs.Rising.{kept-passes, passes-kept}

-- ---- lists that rise

module _ {E : Type 0} (ticket : E → ℕ) where
  pub rises-right : (one other : List E) → Rises ticket (one ++ other) → Rises ticket other
  rises-right [] other rises = rises
  rises-right (first ∷ one) other rises = rises-right one other rises.1

  pub rises-push : (list : List E) (last : E) → Rises ticket list → ((one : E) → Contains list one → ticket one < ticket last) → Rises ticket (list ++ last ∷ [])
  rises-push [] last rises above = (λ later stands. absurd (not_in_none later stands), tt)
  rises-push (first ∷ more) last rises above = (
    λ later stands.
        ⊎_elim
        (λ old. rises.0 later old)
        (λ new. subst (λ z. ticket first < ticket z) (Contains-one last later new) (above first (Contains-first first more)))
        (Contains-append_cases more (last ∷ []) later stands),
    rises-push more last rises.1 (λ one stands. above one (Contains-more first more one stands)),
  )

-- ---- past a ticket

pub in_past : (ticket : ℕ) (events : List Stamped) (one : Stamped) → Contains (past ticket events) one → Contains events one
in_past ticket [] one stands = stands
in_past ticket (first ∷ more) one stands = cases (first.ticket == ticket) stands
  where
    cases : (b : Bool) → Contains (cond b more (first ∷ more)) one → Contains (first ∷ more) one
    cases true later = Contains-more first more one later
    cases false same = same

-- what is left behind the ticket is above it, where the list rises and begins with no lower one
pub past_above : (ticket : ℕ) (events : List Stamped) → Rises ticket_of events → ((next : Stamped) (more : List Stamped) → events ≡ next ∷ more → ticket ≤ next.ticket) → (one : Stamped) → Contains (past ticket events) one → ticket < one.ticket
past_above ticket [] rises least one stands = absurd (not_in_none one stands)
past_above ticket (first ∷ more) rises least one stands =
    ⊎_elim
    (λ same. let kept = subst (λ b. Contains (cond b more (first ∷ more)) one) (eq-eqb first.ticket ticket same) stands in let above = rises.0 one kept in omega (arith, above, same))
    (λ apart. other apart (subst (λ b. Contains (cond b more (first ∷ more)) one) (ne_eqb first.ticket ticket apart) stands))
    (cases_eq first.ticket ticket)
  where
    other : first.ticket ≢ ticket → Contains (first ∷ more) one → ticket < one.ticket
    other apart kept =
        let least_one = least first more refl in
        ⊎_elim
        (λ is. let tied : first.ticket ≡ one.ticket = ap ticket_of is in omega (arith, least_one, apart, tied))
        (λ later. let above = rises.0 one later in omega (arith, above, least_one))
        (Contains-cons_cases first more one kept)

-- ---- walks

module _ (logs : List ObjectLog) (walk : List Left) (done : List Stamped) (walked : IsWalked logs walk done) where
  pub log_there : (one : Left) → Contains walk one → Contains logs one.log
  log_there one there = subst (λ ls. Contains ls one.log) walked.logs_of (Contains-image (λ (l : Left). l.log) walk one there)

  -- each log has its place in the walk
  pub of_walk : (log : ObjectLog) → Contains logs log → (one : Left) × Contains walk one × (one.log ≡ log)
  of_walk log there = Contains-from_image (λ (l : Left). l.log) walk log (subst (λ ls. Contains ls log) (sym walked.logs_of) there)

  -- what stands in a log is done, and touches it, or is left
  pub done_or_left : (one : Left) → Contains walk one → (event : Stamped) → Contains one.log.events event → (Contains done event × (touches event one.log ≡ true)) ⊎ Contains one.events event
  done_or_left one there event stands =
      let part = filter (λ (e : Stamped). touches e one.log) done in
      ⊎_elim
      (λ kept. inl (kept-passes (λ (e : Stamped). touches e one.log) done event kept))
      (λ left. inr left)
      (Contains-append_cases part one.events event (subst (λ es. Contains es event) (walked.parts one there) stands))

  pub left_stands : (one : Left) → Contains walk one → (event : Stamped) → Contains one.events event → Contains one.log.events event
  left_stands one there event left =
      let part = filter (λ (e : Stamped). touches e one.log) done in
      subst (λ es. Contains es event) (sym (walked.parts one there)) (Contains-append_right part one.events event left)

  pub done_stands : (one : Left) → Contains walk one → (event : Stamped) → Contains done event → touches event one.log ≡ true → Contains one.log.events event
  done_stands one there event is touching =
      let part = filter (λ (e : Stamped). touches e one.log) done in
      subst (λ es. Contains es event) (sym (walked.parts one there)) (Contains-append_left part one.events event (passes-kept (λ (e : Stamped). touches e one.log) done event is touching))

  pub left_rises : AllRise logs → (one : Left) → Contains walk one → Rises ticket_of one.events
  left_rises rise one there =
      rises-right ticket_of (filter (λ (e : Stamped). touches e one.log) done) one.events (subst (λ es. Rises ticket_of es) (walked.parts one there) (rise one.log (log_there one there)))

  module _ (rise : AllRise logs) (event : Stamped) (next : IsNext walk event) where
    -- nothing that is left has a lower ticket
    pub left_not_below : (one : Left) → Contains walk one → (other : Stamped) → Contains one.events other → event.ticket ≤ other.ticket
    left_not_below one there other = at one.events refl (left_rises rise one there)
      where
        at : (events : List Stamped) → one.events ≡ events → Rises ticket_of events → Contains events other → event.ticket ≤ other.ticket
        at [] are rises stands = absurd (not_in_none other stands)
        at (first ∷ more) are rises stands =
            let least = next.least one first more there are in
            ⊎_elim
            (λ is. let tied : first.ticket ≡ other.ticket = ap ticket_of is in omega (arith, least, tied))
            (λ later. let above = rises.0 other later in omega (arith, above, least))
            (Contains-cons_cases first more other stands)

    -- what is done has a lower one
    pub done_below : (one : Stamped) → Contains done one → one.ticket < event.ticket
    done_below one is =
        let some = next.some in
        walked.below some.0 one event some.2 is (subst (λ es. Contains es event) (sym some.3) (Contains-first event some.1))

    pub next_stands : Contains next.some.0.log.events event
    next_stands = let some = next.some in left_stands some.0 some.2 event (subst (λ es. Contains es event) (sym some.3) (Contains-first event some.1))
