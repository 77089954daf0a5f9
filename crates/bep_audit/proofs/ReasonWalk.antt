-- A walk over the reasons in their order: the first that fails, with its place, is the verdict.
use Rattle.std.proofs.Common.{◌≡◌, ◌≢◌, ◌↔◌, ◌+◌, ◌<◌, ◌≤◌, ℕ, zero, suc, List, [], ◌∷◌, Some, None, length, get_or, refl, sym, ap, subst, ◌∙◌, ⊎_elim, arith}
use Rattle.std.specs.Prelude.{⊤}
use Rattle.std.proofs.lemmas.Bool.{cases_eq}
use Rattle.bep_facts.specs.Options.{none_from_no_value}
use Rattle.bep_model.specs.declared.row.Row.{Row}
use Rattle.bep_model.specs.declared.reason.Reason.{Reason}
use Rattle.bep_model.specs.declared.reason.Reason.TheVariants.{CertificateOrder}
use Rattle.bep_model.specs.Tables.{Tables}
use Rattle.bep_model.specs.Settled.{IsSettled, Rise}
use Rattle.bep_model.specs.Reasons.{Place, Asks, first_disordered}
use Rattle.bep_model.specs.Verdict.{Verdict, Settled, Not, number_of, IsFirstFault, IsVerdict}
use Rattle.bep_model.specs.Laws.{RowsRiseInOrder, NumbersAreWithin, NumbersDiffer, SettledIsFaultless}
use Rattle.bep_audit.specs.declared.verdict.Verdict as program
use Rattle.bep_audit.specs.declared.verdict.Verdict.TheVariants as lends
use Rattle.bep_audit.specs.declared.checkers.TheConstants.{REASONS}
use Rattle.bep_audit.specs.inner.Search.{FindsFailing}
use Rattle.bep_audit.specs.Shown.{verdict_shown}

-- ---- the order of reasons

-- reasons in their order, from this number on
abbrev AreNumbered : ℕ → List Reason → Type 0
AreNumbered n [] = ⊤
AreNumbered n (reason ∷ more) = (number_of reason ≡ n) × AreNumbered (n + 1) more

number_at : (reasons : List Reason) (n k : ℕ) (d : Reason) → AreNumbered n reasons → k < length reasons → number_of (get_or reasons k d) ≡ n + k
number_at [] n k d numbered below = absurd (omega arith)
number_at (reason ∷ more) n zero d numbered below = numbered.0 ∙ omega arith
number_at (reason ∷ more) n (suc k) d numbered below = number_at more (n + 1) k d numbered.1 (omega arith) ∙ omega arith

-- the reason that the walk has come to
abbrev pub reason_at : ℕ → Reason
reason_at place = get_or REASONS place CertificateOrder

pub number_of_reason_at : (place : ℕ) → place < 12 → number_of (reason_at place) ≡ place + 1
number_of_reason_at place below =
    number_at REASONS 1 place CertificateOrder (refl, (refl, (refl, (refl, (refl, (refl, (refl, (refl, (refl, (refl, (refl, (refl, tt)))))))))))) below ∙ omega arith

-- ---- the walk

-- none of the reasons before this place fails anywhere
pub record HoldBefore (t : Tables) (rows : List Row) (place : ℕ) : Type 0 where
  pub holds : (lesser : Reason) (any : Place) → number_of lesser ≤ place → Asks t rows lesser any

module _ (t : Tables) (rows : List Row) where
  pub reasons_start : NumbersAreWithin → HoldBefore t rows 0
  reasons_start within = record { holds = λ lesser any below. let positive = (within lesser).0 in absurd (omega (arith, positive)) }

  pub reasons_go_on : NumbersDiffer → (place : ℕ) → place < 12 → HoldBefore t rows place → FindsFailing t rows (reason_at place) None → HoldBefore t rows (place + 1)
  reasons_go_on different place below before here = record {
    holds = λ lesser any up_to.
        ⊎_elim
        (λ same. subst (λ reason. Asks t rows reason any) (sym (different lesser (reason_at place) (same ∙ sym (number_of_reason_at place below)))) (here any))
        (λ differs. before.holds lesser any (omega arith))
        (cases_eq (number_of lesser) (place + 1));
  }

  -- past the first reason the rows rise
  pub rows_rise : RowsRiseInOrder → NumbersDiffer → (place : ℕ) → place < 12 → HoldBefore t rows place → reason_at place ≢ CertificateOrder → Rise rows
  rows_rise in_order different place below before differs =
      let number = number_of_reason_at place below in
      let later : 1 ≤ place =
      ⊎_elim
      (λ first. absurd (differs (different (reason_at place) CertificateOrder (omega (arith, number, first)))))
      (λ others. omega (arith, others))
      (cases_eq place 0) in
      (in_order rows).0
      (none_from_no_value (first_disordered rows)
      (λ key. before.holds CertificateOrder (record { folder = key.0; name = key.1; device = None }) later))

  pub first_failing_at : (place : ℕ) → place < 12 → HoldBefore t rows place → (spot : Place) → FindsFailing t rows (reason_at place) (Some spot) → IsFirstFault t rows (reason_at place) spot
  first_failing_at place below before spot first = record {
    fails = first.fails;
    least = λ lesser any less. before.holds lesser any (let number = number_of_reason_at place below in omega (arith, number, less));
    first = first.before;
  }

  pub settled_at_last : SettledIsFaultless → NumbersAreWithin → (place : ℕ) → 12 ≤ place → HoldBefore t rows place → IsSettled t rows
  settled_at_last faultless within place past before =
      (faultless t rows).1 (λ reason any. before.holds reason any (let up_to = (within reason).1 in omega (arith, up_to)))

  -- ---- what the verdict says

  pub failing_is_verdict : (shown : Verdict) (reason : Reason) (spot : Place) → shown ≡ Not reason spot.folder spot.name spot.device → IsFirstFault t rows reason spot → IsVerdict t rows shown
  failing_is_verdict shown reason spot is failing = subst (IsVerdict t rows) (sym is) failing

  not_both : (verdict : program.Verdict) (reason : Reason) (spot : Place) → verdict_shown verdict ≡ Not reason spot.folder spot.name spot.device → verdict ≡ lends.Settled → ⊥
  not_both verdict reason spot is settled = let e : Settled ≡ Not reason spot.folder spot.name spot.device = sym (ap verdict_shown settled) ∙ is in cc

  pub failing_is_not_settled : SettledIsFaultless → (verdict : program.Verdict) (reason : Reason) (spot : Place) → verdict_shown verdict ≡ Not reason spot.folder spot.name spot.device → IsVerdict t rows (verdict_shown verdict) → (verdict ≡ lends.Settled) ↔ IsSettled t rows
  failing_is_not_settled faultless verdict reason spot is said =
      let failing : IsFirstFault t rows reason spot = subst (IsVerdict t rows) is said in (
        λ settled. absurd (not_both verdict reason spot is settled),
        λ settled. absurd (failing.fails ((faultless t rows).0 settled reason spot)),
      )

  pub calm_of_none : {A : Type 0} (verdict : program.Verdict) (reason : Reason) (spot : Place) → verdict_shown verdict ≡ Not reason spot.folder spot.name spot.device → verdict ≡ lends.Settled → A
  calm_of_none verdict reason spot is settled = absurd (not_both verdict reason spot is settled)
