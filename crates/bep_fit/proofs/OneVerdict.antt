-- Two verdicts on the same logs are equal.
use Rattle.std.proofs.Common.{◌≡◌, ◌⊎◌, ◌<◌, ℕ, List, [], ◌∷◌, Contains, length, sym, ap, subst, ◌∙◌, inl, inr, ⊎_elim}
use Rattle.std.proofs.lemmas.Bool.{cases_order}
use Rattle.bep_facts.specs.Members.{Contains-first, Contains-more}
use Rattle.bep_fit.specs.declared.object.Object.{Object}
use Rattle.bep_fit.specs.declared.stamped.Stamped.{Stamped}
use Rattle.bep_fit.specs.declared.verdict.RunVerdict.TheVariants.{Fits as DoFit, Misfit}
use Rattle.bep_fit.specs.Fit.{DiffersFirst, Fits, IsAtFault, IsFirst, IsFirstAtFault}
use Rattle.bep_fit.specs.FitLaws.{RunVerdictIsOne}
use Rattle.bep_fit.specs.Logs.{ObjectLog}
use Rattle.bep_fit.proofs.Faultless.{entries_of, ticket_of}
use Rattle.bep_fit.proofs.Merged.{merged_is_one}

-- it holds of some log that is there
first_there : (P : ObjectLog → Type 0) (logs : List ObjectLog) (object : Object) → IsFirst P logs object → (log : ObjectLog) × Contains logs log × P log
first_there P [] object first = absurd first
first_there P (log ∷ more) object (inl here) = (log, Contains-first log more, here.0)
first_there P (log ∷ more) object (inr later) =
    let found = first_there P more object later.1 in (found.0, Contains-more log more found.0 found.1, found.2)

first_is_one : (P : ObjectLog → Type 0) (logs : List ObjectLog) (one other : Object) → IsFirst P logs one → IsFirst P logs other → one ≡ other
first_is_one P [] one other first second = absurd first
first_is_one P (log ∷ more) one other (inl here) (inl there) = sym here.1 ∙ there.1
first_is_one P (log ∷ more) one other (inl here) (inr later) = absurd (later.0 here.0)
first_is_one P (log ∷ more) one other (inr later) (inl there) = absurd (later.0 there.0)
first_is_one P (log ∷ more) one other (inr later) (inr after) = first_is_one P more one other later.1 after.1

abbrev IsMisfit : List ObjectLog → Object → ℕ → Type 0
IsMisfit logs object ticket = DiffersFirst logs object ticket ⊎ IsFirstAtFault logs object ticket

module _ (logs : List ObjectLog) where
  one_count : (count other : ℕ) → Fits logs count → Fits logs other → count ≡ other
  one_count count other fits fit =
      sym fits.counted ∙ ap (λ (list : List Stamped). length list) (merged_is_one ticket_of entries_of logs fits.merged fit.merged fits.is_merged fit.is_merged) ∙ fit.counted

  fits_excludes : (count : ℕ) (object : Object) (ticket : ℕ) → Fits logs count → ¬ IsMisfit logs object ticket
  fits_excludes count object ticket fits (inl differs) =
      let found = first_there _ logs object differs.first in found.2 (fits.rounds found.0 found.1)
  fits_excludes count object ticket fits (inr fault) =
      let found = first_there (IsAtFault logs ticket) logs object fault.first in fits.faultless ticket found.0 found.1 found.2

  -- rounds don't differ where they are equal
  rounds_exclude : (object : Object) (ticket : ℕ) (other : Object) (at : ℕ) → DiffersFirst logs object ticket → ¬ IsFirstAtFault logs other at
  rounds_exclude object ticket other at differs fault =
      let found = first_there _ logs object differs.first in found.2 (fault.rounds found.0 found.1)

  -- a ticket at fault isn't below the least one
  not_below : (object : Object) (ticket : ℕ) (other : Object) (at : ℕ) → IsFirstAtFault logs object ticket → IsFirstAtFault logs other at → ¬ (ticket < at)
  not_below object ticket other at one two below =
      let found = first_there (IsAtFault logs ticket) logs object one.first in two.least ticket below found.0 found.1 found.2

  one_ticket : (object : Object) (ticket : ℕ) (other : Object) (at : ℕ) → IsFirstAtFault logs object ticket → IsFirstAtFault logs other at → ticket ≡ at
  one_ticket object ticket other at one two =
      ⊎_elim (λ same. same) (⊎_elim (λ below. absurd (not_below object ticket other at one two below)) (λ above. absurd (not_below other at object ticket two one above))) (cases_order ticket at)

  one_misfit : (object : Object) (ticket : ℕ) (other : Object) (at : ℕ) → IsMisfit logs object ticket → IsMisfit logs other at → (object ≡ other) × (ticket ≡ at)
  one_misfit object ticket other at (inl differs) (inl differ) = (first_is_one _ logs object other differs.first differ.first, differs.zero ∙ sym differ.zero)
  one_misfit object ticket other at (inl differs) (inr fault) = absurd (rounds_exclude object ticket other at differs fault)
  one_misfit object ticket other at (inr fault) (inl differs) = absurd (rounds_exclude other at object ticket differs fault)
  one_misfit object ticket other at (inr one) (inr two) =
      let same = one_ticket object ticket other at one two in
      (first_is_one (IsAtFault logs at) logs object other (subst (λ t. IsFirst (IsAtFault logs t) logs object) same one.first) two.first, same)

pub run_verdict_is_one_lem : RunVerdictIsOne
run_verdict_is_one_lem logs (DoFit count) (DoFit other) fits fit = ap DoFit (one_count logs count other fits fit)
run_verdict_is_one_lem logs (DoFit count) (Misfit object ticket) fits misfit = absurd (fits_excludes logs count object ticket fits misfit)
run_verdict_is_one_lem logs (Misfit object ticket) (DoFit count) misfit fits = absurd (fits_excludes logs count object ticket fits misfit)
run_verdict_is_one_lem logs (Misfit object ticket) (Misfit other at) one two =
    let same = one_misfit logs object ticket other at one two in λ i. Misfit (same.0 i) (same.1 i)
