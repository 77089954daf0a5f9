-- All logs have a verdict: whether an event is at fault can be decided, and only the tickets of events can be at fault.
use Rattle.std.proofs.Common.{◌≡◌, ◌≢◌, ◌⊎◌, ◌<◌, ◌≤◌, ℕ, true, false, List, [], ◌∷◌, Contains, length, zero, suc, refl, sym, subst, inl, inr, ⊎_elim, arith}
use Rattle.std.proofs.lemmas.Bool.{cases_eq, cases_lt}
use Rattle.std.specs.List.{flat_map}
use Rattle.bep_facts.specs.Decided.{OrNot, both_or_not, either_or_not, false_or_not, not_or_not, or_not_as, same_or_not, true_or_not}
use Rattle.bep_facts.specs.Members.{Contains-cons_cases, Contains-first, Contains-flat_map, Contains-more, each_or_one, not_in_none}
use Rattle.bep_fit.specs.contracts.object.Object as object_row
use Rattle.bep_fit.specs.contracts.stamped.Stamped as stamped_row
use Rattle.bep_fit.specs.declared.object.Object.{Object}
use Rattle.bep_fit.specs.declared.stamped.Stamped.{Stamped}
use Rattle.bep_fit.specs.declared.verdict.RunVerdict.{RunVerdict}
use Rattle.bep_fit.specs.declared.verdict.RunVerdict.TheVariants.{Fits as DoFit, Misfit}
use Rattle.bep_fit.specs.Fit.{AreFaultless, AreOfOneRound, Falls, IsAtFault, IsContradicted, IsElsewhere, IsFirst, IsMissing, IsOfOtherRound, IsRunVerdict, first_round}
use Rattle.bep_fit.specs.FitLaws.{RunVerdictIsThere}
use Rattle.bep_fit.specs.Logs.{HasLog, ObjectLog, named, touches}
use Rattle.bep_fit.proofs.Deciding.{some_or_none, stands_or_not}
use Rattle.bep_fit.proofs.Faultless.{entries_of, faultless_agree, ticket_of}
use Rattle.bep_fit.proofs.Merged.{logs_merge}

-- ---- an event at fault

le_or_not : (a b : ℕ) → OrNot (a ≤ b)
le_or_not a b = ⊎_elim (λ below. inr (λ le. omega (arith, below, le))) (λ le. inl le) (cases_lt b a)

falls_or_not : (ticket : ℕ) (list : List Stamped) → OrNot (Falls ticket list)
falls_or_not ticket [] = inr (λ falls. falls)
falls_or_not ticket (one ∷ []) = inr (λ falls. falls)
falls_or_not ticket (one ∷ next ∷ more) =
    either_or_not (both_or_not (cases_eq next.ticket ticket) (le_or_not ticket one.ticket)) (falls_or_not ticket (next ∷ more))

module _ (logs : List ObjectLog) where
  pub has_log_or_not : (object : Object) → OrNot (HasLog logs object)
  has_log_or_not object = some_or_none (λ (log : ObjectLog). log.object ≡ object) (λ log. same_or_not (object_row.the_row).coded log.object object) logs

  missing_or_not : (one : Stamped) → OrNot (IsMissing logs one)
  missing_or_not one =
      either_or_not
      (some_or_none (λ object. ¬ HasLog logs object) (λ object. not_or_not (has_log_or_not object)) (named one))
      (or_not_as
      (λ (has : (log : ObjectLog) × Contains logs log × ((touches one log ≡ true) × ¬ Contains log.events one)). (has.0, has.1, has.2.0, has.2.1))
      (λ has. (has.0, has.1, (has.2, has.3)))
      (some_or_none (λ (log : ObjectLog). (touches one log ≡ true) × ¬ Contains log.events one) (λ log. both_or_not (true_or_not (touches one log)) (not_or_not (stands_or_not (stamped_row.the_row).coded log.events one))) logs))

  -- some log has such an event
  abbrev HasSuch : (ObjectLog → Stamped → Type 0) → Type 0
  HasSuch P = (log : ObjectLog) × Contains logs log × ((other : Stamped) × Contains log.events other × P log other)

  has_such_or_not : (P : ObjectLog → Stamped → Type 0) → ((log : ObjectLog) (other : Stamped) → OrNot (P log other)) → OrNot (HasSuch P)
  has_such_or_not P decide =
      some_or_none (λ (log : ObjectLog). (other : Stamped) × Contains log.events other × P log other) (λ log. some_or_none (P log) (decide log) log.events) logs

  contradicted_or_not : (one : Stamped) → OrNot (IsContradicted logs one)
  contradicted_or_not one =
      or_not_as
      (λ (has : HasSuch (λ log other. (other.ticket ≡ one.ticket) × (other ≢ one))). (has.0, has.2.0, has.1, has.2.1, has.2.2.0, has.2.2.1))
      (λ has. (has.0, has.2, (has.1, has.3, (has.4, has.5))))
      (has_such_or_not (λ log other. (other.ticket ≡ one.ticket) × (other ≢ one)) (λ log other. both_or_not (cases_eq other.ticket one.ticket) (not_or_not (same_or_not (stamped_row.the_row).coded other one))))

  elsewhere_or_not : (one : Stamped) → OrNot (IsElsewhere logs one)
  elsewhere_or_not one =
      or_not_as
      (λ (has : HasSuch (λ log other. (other.ticket ≡ one.ticket) × (touches one log ≡ false))). (has.0, has.2.0, has.1, has.2.1, has.2.2.0, has.2.2.1))
      (λ has. (has.0, has.2, (has.1, has.3, (has.4, has.5))))
      (has_such_or_not (λ log other. (other.ticket ≡ one.ticket) × (touches one log ≡ false)) (λ log other. both_or_not (cases_eq other.ticket one.ticket) (false_or_not (touches one log))))

  abbrev pub IsWrong : Stamped → Type 0
  IsWrong one = IsMissing logs one ⊎ (IsContradicted logs one ⊎ IsElsewhere logs one)

  pub wrong_or_not : (one : Stamped) → OrNot (IsWrong one)
  wrong_or_not one = either_or_not (missing_or_not one) (either_or_not (contradicted_or_not one) (elsewhere_or_not one))

  at_fault_or_not : (ticket : ℕ) (log : ObjectLog) → OrNot (IsAtFault logs ticket log)
  at_fault_or_not ticket log =
      either_or_not
      (falls_or_not ticket log.events)
      (or_not_as
      (λ (has : (one : Stamped) × Contains log.events one × ((one.ticket ≡ ticket) × IsWrong one)). (has.0, has.1, has.2.0, has.2.1))
      (λ has. (has.0, has.1, (has.2, has.3)))
      (some_or_none (λ (one : Stamped). (one.ticket ≡ ticket) × IsWrong one) (λ one. both_or_not (cases_eq one.ticket ticket) (wrong_or_not one)) log.events))

  -- ---- a ticket at fault

  abbrev HasFault : ℕ → Type 0
  HasFault ticket = (log : ObjectLog) × Contains logs log × IsAtFault logs ticket log

  has_fault_or_not : (ticket : ℕ) → OrNot (HasFault ticket)
  has_fault_or_not ticket = some_or_none (IsAtFault logs ticket) (at_fault_or_not ticket) logs

  -- only the ticket of an event can be at fault
  falls_at_event : (ticket : ℕ) (list : List Stamped) → Falls ticket list → (one : Stamped) × Contains list one × (one.ticket ≡ ticket)
  falls_at_event ticket [] falls = absurd falls
  falls_at_event ticket (one ∷ []) falls = absurd falls
  falls_at_event ticket (one ∷ next ∷ more) (inl here) = (next, Contains-more one (next ∷ more) next (Contains-first next more), here.0)
  falls_at_event ticket (one ∷ next ∷ more) (inr later) =
      let found = falls_at_event ticket (next ∷ more) later in (found.0, Contains-more one (next ∷ more) found.0 found.1, found.2)

  fault_at_event : (ticket : ℕ) (log : ObjectLog) → IsAtFault logs ticket log → (one : Stamped) × Contains log.events one × (one.ticket ≡ ticket)
  fault_at_event ticket log (inl falls) = falls_at_event ticket log.events falls
  fault_at_event ticket log (inr wrong) = (wrong.0, wrong.1, wrong.2)

  some_fault_or_faultless : ((ticket : ℕ) × HasFault ticket) ⊎ AreFaultless logs
  some_fault_or_faultless =
      ⊎_elim
      (λ found. inl (found.0.ticket, found.2))
      (λ none. inr (λ ticket log there fault.
      let at = fault_at_event ticket log fault in
      none (at.0, Contains-flat_map entries_of logs log at.0 there at.1, subst HasFault (sym at.2) (log, there, fault))))
      (some_or_none (λ (one : Stamped). HasFault one.ticket) (λ one. has_fault_or_not one.ticket) (flat_map entries_of logs))

-- ---- the least, and the first

module _ (P : ℕ → Type 0) (decide : (n : ℕ) → OrNot (P n)) where
  abbrev IsLeast : Type 0
  IsLeast = (least : ℕ) × P least × ((lower : ℕ) → lower < least → ¬ P lower)

  least_or_none : (limit : ℕ) → IsLeast ⊎ ((lower : ℕ) → lower < limit → ¬ P lower)
  least_or_none zero = inr (λ lower below. absurd (omega (arith, below)))
  least_or_none (suc n) =
      ⊎_elim
      (λ least. inl least)
      (λ none.
      ⊎_elim
      (λ here. inl (n, here, none))
      (λ not_here. inr (λ lower below. ⊎_elim (λ less. none lower less) (λ not_less. let same : lower ≡ n = omega (arith, below, not_less) in subst (λ k. ¬ P k) (sym same) not_here) (cases_lt lower n)))
      (decide n))
      (least_or_none n)

  least_of : (n : ℕ) → P n → IsLeast
  least_of n has = ⊎_elim (λ least. least) (λ none. absurd (none n (omega arith) has)) (least_or_none (suc n))

first_of : (P : ObjectLog → Type 0) → ((log : ObjectLog) → OrNot (P log)) → (logs : List ObjectLog) (log : ObjectLog) → Contains logs log → P log → (object : Object) × IsFirst P logs object
first_of P decide [] log there has = absurd (not_in_none log there)
first_of P decide (first ∷ more) log there has =
    ⊎_elim
    (λ here. (first.object, inl (here, refl)))
    (λ lacks.
    let later : Contains more log = ⊎_elim (λ same. absurd (lacks (subst P (sym same) has))) (λ later. later) (Contains-cons_cases first more log there) in
    let found = first_of P decide more log later has in
    (found.0, inr (lacks, found.1)))
    (decide first)

-- ---- the verdict

module _ (logs : List ObjectLog) where
  faulty_verdict : AreOfOneRound logs → (ticket : ℕ) → HasFault logs ticket → (verdict : RunVerdict) × IsRunVerdict logs verdict
  faulty_verdict rounds ticket fault =
      let least = least_of (HasFault logs) (has_fault_or_not logs) ticket fault in
      let first = first_of (IsAtFault logs least.0) (at_fault_or_not logs least.0) logs least.1.0 least.1.1 least.1.2 in
      (Misfit first.0 least.0, inr (record { rounds = rounds; first = first.1; least = λ lower below log there at. least.2 lower below (log, there, at) }))

  fitting_verdict : AreOfOneRound logs → AreFaultless logs → (verdict : RunVerdict) × IsRunVerdict logs verdict
  fitting_verdict rounds faultless =
      let merged = logs_merge ticket_of entries_of touches logs (faultless_agree logs faultless) in
      (DoFit (length merged.0), record { rounds = rounds; faultless = faultless; merged = merged.0; is_merged = merged.1; counted = refl })

  differing_verdict : (log : ObjectLog) → Contains logs log → IsOfOtherRound logs log → (verdict : RunVerdict) × IsRunVerdict logs verdict
  differing_verdict log there differs =
      let first = first_of (IsOfOtherRound logs) (λ one. not_or_not (cases_eq one.round (first_round logs))) logs log there differs in
      (Misfit first.0 0, inl (record { first = first.1; zero = refl }))

pub run_verdict_is_there_lem : RunVerdictIsThere
run_verdict_is_there_lem logs =
    ⊎_elim
    (λ rounds. ⊎_elim (λ fault. faulty_verdict logs rounds fault.0 fault.1) (fitting_verdict logs rounds) (some_fault_or_faultless logs))
    (λ differs. differing_verdict logs differs.0 differs.1.0 differs.1.1)
    (each_or_one (λ (log : ObjectLog). log.round ≡ first_round logs) (λ log. cases_eq log.round (first_round logs)) logs)
