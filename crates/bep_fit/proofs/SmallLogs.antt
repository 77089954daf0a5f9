-- The small logs of two devices and their link: what stands in them, and which verdict they have.
use Rattle.std.proofs.Common.{◌≡◌, ◌⊎◌, ◌<◌, ℕ, true, false, List, [], ◌∷◌, Contains, Option, refl, sym, ap, subst, inl, inr, ⊎_elim, arith}
use Rattle.bep_facts.specs.Members.{Contains-cons_cases, Contains-first, Contains-more, Contains-one, Contains-pair_cases, not_in_none}
use Rattle.bep_machine.specs.declared.logged.Traffic.{Traffic}
use Rattle.bep_fit.specs.declared.object.Object.{Object}
use Rattle.bep_fit.specs.declared.object.Object.TheVariants as objects
use Rattle.bep_fit.specs.declared.stamped.Stamped.{Stamped}
use Rattle.bep_fit.specs.declared.verdict.RunVerdict.TheVariants.{Fits, Misfit}
use Rattle.bep_fit.specs.Examples.{begins, comes_up, logs_of}
use Rattle.bep_fit.specs.Fit.{AreFaultless, AreFaultlessAt, AreOfOneRound, Falls, IsAtFault, IsContradicted, IsElsewhere, IsMerged, IsMissing, IsRunVerdict}
use Rattle.bep_fit.specs.Logs.{HasLog, ObjectLog, touches}
use Rattle.bep_fit.proofs.Faultless.{ticket_of}

abbrev one_log : List Stamped → ObjectLog
one_log events = record { object = objects.Device 1; round = 0; events = events }

abbrev other_log : ℕ → ObjectLog
other_log round = record { object = objects.Device 2; round = round; events = [] }

abbrev link_log : List Stamped → ObjectLog
link_log events = record { object = objects.Link 1 2; round = 0; events = events }

-- ---- which logs there are

module _ (first link : List Stamped) (round : ℕ) where
  -- a fact of each log
  each_log : (P : ObjectLog → Type 0) → P (one_log first) → P (other_log round) → P (link_log link) → (log : ObjectLog) → Contains (logs_of first link round) log → P log
  each_log P one other third log there =
      ⊎_elim
      (λ same. subst P same one)
      (λ rest.
      ⊎_elim
      (λ same. subst P same other)
      (λ last. subst P (Contains-one (link_log link) log last) third)
      (Contains-cons_cases (other_log round) (link_log link ∷ []) log rest))
      (Contains-cons_cases (one_log first) (other_log round ∷ link_log link ∷ []) log there)

  one_there : Contains (logs_of first link round) (one_log first)
  one_there = Contains-first (one_log first) (other_log round ∷ link_log link ∷ [])

  link_there : Contains (logs_of first link round) (link_log link)
  link_there =
      Contains-more (one_log first) (other_log round ∷ link_log link ∷ []) (link_log link)
      (Contains-more (other_log round) (link_log link ∷ []) (link_log link) (Contains-first (link_log link) []))

  -- what these two events name has a log
  link_has : HasLog (logs_of first link round) (objects.Link 1 2)
  link_has = (link_log link, link_there, refl)

  one_has : HasLog (logs_of first link round) (objects.Device 1)
  one_has = (one_log first, one_there, refl)

one_round : (first link : List Stamped) → AreOfOneRound (logs_of first link 0)
one_round first link = each_log first link 0 (λ (log : ObjectLog). log.round ≡ 0) refl refl refl

-- the event isn't where it should be, or something else is
abbrev IsWrong : List ObjectLog → Stamped → Type 0
IsWrong logs one = IsMissing logs one ⊎ (IsContradicted logs one ⊎ IsElsewhere logs one)

-- ---- the first device has nothing but its session's event, and the link nothing but the two

module _ (traffic : Option Traffic) (first link : List Stamped) (of_first : (one : Stamped) → Contains first one → begins traffic ≡ one) (of_link : (one : Stamped) → Contains link one → (comes_up ≡ one) ⊎ (begins traffic ≡ one)) where
  abbrev logs : List ObjectLog
  logs = logs_of first link 0

  one_of_two : (log : ObjectLog) → Contains logs log → (one : Stamped) → Contains log.events one → (comes_up ≡ one) ⊎ (begins traffic ≡ one)
  one_of_two =
      each_log first link 0 (λ log. (one : Stamped) → Contains log.events one → (comes_up ≡ one) ⊎ (begins traffic ≡ one))
      (λ one stands. inr (of_first one stands)) (λ one stands. absurd (not_in_none one stands)) of_link

  by_ticket_one : (one : Stamped) → (comes_up ≡ one) ⊎ (begins traffic ≡ one) → one.ticket ≡ 1 → comes_up ≡ one
  by_ticket_one one (inl up) at = up
  by_ticket_one one (inr begun) at = let two : 2 ≡ one.ticket = ap ticket_of begun in absurd (omega (arith, two, at))

  by_ticket_two : (one : Stamped) → (comes_up ≡ one) ⊎ (begins traffic ≡ one) → one.ticket ≡ 2 → begins traffic ≡ one
  by_ticket_two one (inl up) at = let unit : 1 ≡ one.ticket = ap ticket_of up in absurd (omega (arith, unit, at))
  by_ticket_two one (inr begun) at = begun

  module _ (up_stands : Contains link comes_up) where
    up_is_right : ¬ IsWrong logs comes_up
    up_is_right (inl (inl missing)) = missing.2 (subst (HasLog logs) (Contains-one (objects.Link 1 2) missing.0 missing.1) (link_has first link 0))
    up_is_right (inl (inr missing)) =
        each_log first link 0 (λ log. touches comes_up log ≡ true → ¬ Contains log.events comes_up → ⊥)
        (λ touching lacks. let never : false ≡ true = touching in absurd (cc)) (λ touching lacks. let never : false ≡ true = touching in absurd (cc)) (λ touching lacks. lacks up_stands)
        missing.0 missing.1 missing.2 missing.3
    up_is_right (inr (inl wrong)) = wrong.5 (sym (by_ticket_one wrong.1 (one_of_two wrong.0 wrong.2 wrong.1 wrong.3) wrong.4))
    up_is_right (inr (inr wrong)) =
        each_log first link 0 (λ log. (one : Stamped) → Contains log.events one → one.ticket ≡ 1 → touches comes_up log ≡ false → ⊥)
        (λ one stands at untouched. let two : 2 ≡ one.ticket = ap ticket_of (of_first one stands) in absurd (omega (arith, two, at)))
        (λ one stands at untouched. not_in_none one stands)
        (λ one stands at untouched. let never : true ≡ false = untouched in absurd (cc))
        wrong.0 wrong.2 wrong.1 wrong.3 wrong.4 wrong.5

    -- below ticket 2 nothing is at fault
    none_below : ((ticket : ℕ) → ¬ Falls ticket first) → ((ticket : ℕ) → ¬ Falls ticket link) → (lower : ℕ) → lower < 2 → AreFaultlessAt logs lower
    none_below flat rises lower below log there (inl falls) =
        each_log first link 0 (λ log. Falls lower log.events → ⊥) (flat lower) (λ falls. falls) (rises lower) log there falls
    none_below flat rises lower below log there (inr wrong) =
        ⊎_elim
        (λ up. up_is_right (subst (IsWrong logs) (sym up) wrong.3))
        (λ begun. let two : 2 ≡ wrong.0.ticket = ap ticket_of begun in omega (arith, two, wrong.2, below))
        (one_of_two log there wrong.0 wrong.1)

  module _ (begun_first : Contains first (begins traffic)) (begun_link : Contains link (begins traffic)) where
    begun_is_right : ¬ IsWrong logs (begins traffic)
    begun_is_right (inl (inl missing)) =
        missing.2
        (⊎_elim (λ same. subst (HasLog logs) same (one_has first link 0)) (λ same. subst (HasLog logs) same (link_has first link 0)) (Contains-pair_cases (objects.Device 1) (objects.Link 1 2) missing.0 missing.1))
    begun_is_right (inl (inr missing)) =
        each_log first link 0 (λ log. touches (begins traffic) log ≡ true → ¬ Contains log.events (begins traffic) → ⊥)
        (λ touching lacks. lacks begun_first) (λ touching lacks. let never : false ≡ true = touching in absurd (cc)) (λ touching lacks. lacks begun_link)
        missing.0 missing.1 missing.2 missing.3
    begun_is_right (inr (inl wrong)) = wrong.5 (sym (by_ticket_two wrong.1 (one_of_two wrong.0 wrong.2 wrong.1 wrong.3) wrong.4))
    begun_is_right (inr (inr wrong)) =
        each_log first link 0 (λ log. (one : Stamped) → Contains log.events one → touches (begins traffic) log ≡ false → ⊥)
        (λ one stands untouched. let never : true ≡ false = untouched in absurd (cc)) (λ one stands untouched. not_in_none one stands) (λ one stands untouched. let never : true ≡ false = untouched in absurd (cc))
        wrong.0 wrong.2 wrong.1 wrong.3 wrong.5

-- ---- the verdicts

module _ (traffic : Option Traffic) where
  abbrev both : List Stamped
  both = comes_up ∷ begins traffic ∷ []

  -- the two stand in the right order
  rise_both : (ticket : ℕ) → ¬ Falls ticket both
  rise_both ticket (inl here) = let two : 2 ≡ ticket = here.0 in omega (arith, two, here.1)
  rise_both ticket (inr later) = later

  none_of_none : (one : Stamped) → Contains [] one → begins traffic ≡ one
  none_of_none one stands = absurd (not_in_none one stands)

  begun_alone : (one : Stamped) → Contains (begins traffic ∷ []) one → begins traffic ≡ one
  begun_alone = Contains-one (begins traffic)

  up_alone : (one : Stamped) → Contains (comes_up ∷ []) one → (comes_up ≡ one) ⊎ (begins traffic ≡ one)
  up_alone one stands = inl (Contains-one comes_up one stands)

  of_both : (one : Stamped) → Contains both one → (comes_up ≡ one) ⊎ (begins traffic ≡ one)
  of_both = Contains-pair_cases comes_up (begins traffic)

  begun_in_both : Contains both (begins traffic)
  begun_in_both = Contains-more comes_up (begins traffic ∷ []) (begins traffic) (Contains-first (begins traffic) [])

  -- copied after both events
  abbrev after : List ObjectLog
  after = logs_of (begins traffic ∷ []) both 0

  after_faultless : AreFaultless after
  after_faultless ticket log there (inl falls) =
      each_log (begins traffic ∷ []) both 0 (λ log. Falls ticket log.events → ⊥) (λ falls. falls) (λ falls. falls) (rise_both ticket) log there falls
  after_faultless ticket log there (inr wrong) =
      ⊎_elim
      (λ up. up_is_right traffic (begins traffic ∷ []) both begun_alone of_both (Contains-first comes_up (begins traffic ∷ [])) (subst (IsWrong after) (sym up) wrong.3))
      (λ begun. begun_is_right traffic (begins traffic ∷ []) both begun_alone of_both (Contains-first (begins traffic) []) begun_in_both (subst (IsWrong after) (sym begun) wrong.3))
      (one_of_two traffic (begins traffic ∷ []) both begun_alone of_both log there wrong.0 wrong.1)

  both_merged : IsMerged after both
  both_merged = record {
    rises = (λ later stands. let is : begins traffic ≡ later = Contains-one (begins traffic) later stands in let two : 2 ≡ later.ticket = ap ticket_of is in omega (arith, two), (λ later stands. absurd (not_in_none later stands), tt));
    holds = λ one. (
      λ stands. (link_log both, link_there (begins traffic ∷ []) both 0, stands),
      λ logged.
          ⊎_elim
          (λ up. subst (Contains both) up (Contains-first comes_up (begins traffic ∷ [])))
          (λ begun. subst (Contains both) begun begun_in_both)
          (one_of_two traffic (begins traffic ∷ []) both begun_alone of_both logged.0 logged.1 one logged.2),
    );
  }

  pub fit_after_both : IsRunVerdict (logs_of (begins traffic ∷ []) (comes_up ∷ begins traffic ∷ []) 0) (Fits 2)
  fit_after_both = record { rounds = one_round (begins traffic ∷ []) both; faultless = after_faultless; merged = both; is_merged = both_merged; counted = refl }

  -- nothing is at fault in a log without events
  nothing_at : (all : List ObjectLog) (ticket round : ℕ) (object : Object) → ¬ IsAtFault all ticket (record { object = object; round = round; events = [] })
  nothing_at all ticket round object (inl falls) = falls
  nothing_at all ticket round object (inr wrong) = not_in_none wrong.0 wrong.1

  -- the device was copied before
  pub misfit_of_link : IsRunVerdict (logs_of [] (comes_up ∷ begins traffic ∷ []) 0) (Misfit (objects.Link 1 2) 2)
  misfit_of_link =
      let logs = logs_of [] both 0 in
      let fault : IsAtFault logs 2 (link_log both) = inr (begins traffic, begun_in_both, refl, inl (inr (one_log [], one_there [] both 0, refl, not_in_none (begins traffic)))) in
      inr (record {
        rounds = one_round [] both;
        first = inr (nothing_at logs 2 0 (objects.Device 1), inr (nothing_at logs 2 0 (objects.Device 2), inl (fault, refl)));
        least = none_below traffic [] both none_of_none of_both (Contains-first comes_up (begins traffic ∷ [])) (λ ticket falls. falls) rise_both;
      })

  -- the link was copied before
  pub misfit_of_device : IsRunVerdict (logs_of (begins traffic ∷ []) (comes_up ∷ []) 0) (Misfit (objects.Device 1) 2)
  misfit_of_device =
      let logs = logs_of (begins traffic ∷ []) (comes_up ∷ []) 0 in
      let lacks : ¬ Contains (comes_up ∷ []) (begins traffic) = λ stands. let same : comes_up ≡ begins traffic = Contains-one comes_up (begins traffic) stands in let tickets : 1 ≡ 2 = ap ticket_of same in absurd (omega (arith, tickets)) in
      let fault : IsAtFault logs 2 (one_log (begins traffic ∷ [])) = inr (begins traffic, Contains-first (begins traffic) [], refl, inl (inr (link_log (comes_up ∷ []), link_there (begins traffic ∷ []) (comes_up ∷ []) 0, refl, lacks))) in
      inr (record {
        rounds = one_round (begins traffic ∷ []) (comes_up ∷ []);
        first = inl (fault, refl);
        least = none_below traffic (begins traffic ∷ []) (comes_up ∷ []) begun_alone up_alone (Contains-first comes_up []) (λ ticket falls. falls) (λ ticket falls. falls);
      })

  -- the rounds differ
  pub misfit_of_round : IsRunVerdict (logs_of (begins traffic ∷ []) (comes_up ∷ begins traffic ∷ []) 1) (Misfit (objects.Device 2) 0)
  misfit_of_round = inl (record { first = inr (λ differs. differs refl, inl (λ same. absurd (omega (arith, same)), refl)); zero = refl })
