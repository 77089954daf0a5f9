-- Logs without an event at fault agree, and what their events name is there.
use Rattle.std.proofs.Common.{◌≡◌, ◌⊎◌, ◌<◌, ℕ, true, List, [], ◌∷◌, Contains, refl, sym, subst, inl, inr, ⊎_elim, arith}
use Rattle.std.proofs.lemmas.Bool.{both_ways, cases_lt, true_from_ne_false}
use Rattle.bep_facts.specs.Decided.{same_or_not}
use Rattle.bep_facts.specs.Members.{Contains-cons_cases, Contains-first, not_in_none}
use Rattle.bep_fit.specs.contracts.object.Object as object_row
use Rattle.bep_fit.specs.contracts.stamped.Stamped as stamped_row
use Rattle.bep_fit.specs.declared.object.Object.{Object}
use Rattle.bep_fit.specs.declared.stamped.Stamped.{Stamped}
use Rattle.bep_fit.specs.Fit.{AreFaultless, DoAgree, Falls, IsContradicted, IsElsewhere, IsMissing}
use Rattle.bep_fit.specs.FitLaws.{FaultlessLogsAgree}
use Rattle.bep_fit.specs.Logs.{HasLog, ObjectLog, named, touches}
use Rattle.bep_fit.specs.Merge as lists
use Rattle.bep_fit.specs.Merge.{IsLogged, Rises}
use Rattle.bep_fit.proofs.Deciding.{some_or_none, stands_or_not}

abbrev pub ticket_of : Stamped → ℕ
ticket_of one = one.ticket

abbrev pub entries_of : ObjectLog → List Stamped
entries_of log = log.events

-- where no entry comes after one whose ticket isn't below, the tickets rise
pub rises_from : (list : List Stamped) → ((ticket : ℕ) → ¬ Falls ticket list) → Rises ticket_of list
rises_from [] none = tt
rises_from (one ∷ []) none = (λ later stands. absurd (not_in_none later stands), tt)
rises_from (one ∷ next ∷ more) none =
    let rest = rises_from (next ∷ more) (λ ticket falls. none ticket (inr falls)) in
    let above : one.ticket < next.ticket = ⊎_elim (λ below. below) (λ not_below. absurd (none next.ticket (inl (refl, not_below)))) (cases_lt one.ticket next.ticket) in (
      λ later stands. ⊎_elim (λ same. subst (λ (z : Stamped). one.ticket < z.ticket) same above) (λ after. omega (arith, above, rest.0 later after)) (Contains-cons_cases next more later stands),
      rest,
    )

module _ (logs : List ObjectLog) (faultless : AreFaultless logs) where
  not_at_fault : (one : Stamped) → IsLogged entries_of logs one → ¬ (IsMissing logs one ⊎ (IsContradicted logs one ⊎ IsElsewhere logs one))
  not_at_fault one logged fault = faultless one.ticket logged.0 logged.1 (inr (one, logged.2, refl, fault))

  in_every : (one : Stamped) (log : ObjectLog) → IsLogged entries_of logs one → Contains logs log → touches one log ≡ true → Contains log.events one
  in_every one log logged there touching =
      ⊎_elim
      (λ stands. stands)
      (λ lacks. absurd (not_at_fault one logged (inl (inr (log, there, touching, lacks)))))
      (stands_or_not (stamped_row.the_row).coded log.events one)

  pub in_no_other : (one : Stamped) (log : ObjectLog) → Contains logs log → Contains log.events one → touches one log ≡ true
  in_no_other one log there stands =
      true_from_ne_false (touches one log) (λ untouched. not_at_fault one (log, there, stands) (inr (inr (log, one, there, stands, refl, untouched))))

  of_one_ticket : (one other : Stamped) → IsLogged entries_of logs one → IsLogged entries_of logs other → one.ticket ≡ other.ticket → one ≡ other
  of_one_ticket one other logged found same =
      ⊎_elim
      (λ is. is)
      (λ differs. absurd (not_at_fault one logged (inr (inl (found.0, other, found.1, found.2, sym same, λ is. differs (sym is))))))
      (same_or_not (stamped_row.the_row).coded one other)

  pub faultless_agree : lists.DoAgree ticket_of entries_of touches logs
  faultless_agree = record {
    rise = λ log there. rises_from log.events (λ ticket falls. faultless ticket log there (inl falls));
    every = in_every;
    no_other = in_no_other;
    one_ticket = of_one_ticket;
  }

  -- what the event names has a log
  pub named_there : (one : Stamped) → IsLogged entries_of logs one → (object : Object) → Contains (named one) object → HasLog logs object
  named_there one logged object names =
      ⊎_elim
      (λ has. has)
      (λ lacks. absurd (not_at_fault one logged (inl (inl (object, names, lacks)))))
      (some_or_none (λ (log : ObjectLog). log.object ≡ object) (λ log. same_or_not (object_row.the_row).coded log.object object) logs)

-- ---- the other way

pub rises_not_fall : (list : List Stamped) → Rises ticket_of list → (ticket : ℕ) → ¬ Falls ticket list
rises_not_fall [] rises ticket falls = falls
rises_not_fall (one ∷ []) rises ticket falls = falls
rises_not_fall (one ∷ next ∷ more) rises ticket (inl here) =
    let above = rises.0 next (Contains-first next more) in omega (arith, above, here.0, here.1)
rises_not_fall (one ∷ next ∷ more) rises ticket (inr later) = rises_not_fall (next ∷ more) rises.1 ticket later

module _ (logs : List ObjectLog) (agreed : DoAgree logs) where
  none_missing : (one : Stamped) → IsLogged entries_of logs one → ¬ IsMissing logs one
  none_missing one logged (inl missing) = missing.2 (agreed.there logged.0 one missing.0 logged.1 logged.2 missing.1)
  none_missing one logged (inr missing) = missing.3 (agreed.agree.every one missing.0 logged missing.1 missing.2)

  none_contradicted : (one : Stamped) → IsLogged entries_of logs one → ¬ IsContradicted logs one
  none_contradicted one logged wrong = wrong.5 (agreed.agree.one_ticket wrong.1 one (wrong.0, wrong.2, wrong.3) logged wrong.4)

  none_elsewhere : (one : Stamped) → IsLogged entries_of logs one → ¬ IsElsewhere logs one
  none_elsewhere one logged wrong =
      let same : wrong.1 ≡ one = agreed.agree.one_ticket wrong.1 one (wrong.0, wrong.2, wrong.3) logged wrong.4 in
      let touching : touches one wrong.0 ≡ true = subst (λ (z : Stamped). touches z wrong.0 ≡ true) same (agreed.agree.no_other wrong.1 wrong.0 wrong.2 wrong.3) in
      both_ways (touches one wrong.0) wrong.5 touching

  pub agreed_is_faultless : AreFaultless logs
  agreed_is_faultless ticket log there (inl falls) = rises_not_fall log.events (agreed.agree.rise log there) ticket falls
  agreed_is_faultless ticket log there (inr wrong) =
      ⊎_elim
      (none_missing wrong.0 (log, there, wrong.1))
      (⊎_elim (none_contradicted wrong.0 (log, there, wrong.1)) (none_elsewhere wrong.0 (log, there, wrong.1)))
      wrong.3

pub faultless_logs_agree_lem : FaultlessLogsAgree
faultless_logs_agree_lem logs = (
  λ faultless. record { agree = faultless_agree logs faultless; there = λ log one object there stands names. named_there logs faultless one (log, there, stands) object names },
  agreed_is_faultless logs,
)
