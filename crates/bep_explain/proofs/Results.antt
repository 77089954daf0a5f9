-- What the sorted list of all failures, each once, says: it is all of them, and its first is the verdict.
use Rattle.std.proofs.Common.{◌≡◌, ◌↔◌, List, [], ◌∷◌, Contains, map, refl, sym, ap, subst, ⊎_elim}
use Rattle.std.specs.declared.cmp.Ordering.{Ordering}
use Rattle.std.specs.declared.cmp.Ordering.TheVariants.{Less, Equal, Greater}
use Rattle.std.specs.Ordering.{nat_cmp, ordering_then}
use Rattle.std.specs.List.Sorted.{IsStrictlySortedBy, IsSorted, IsPermutation}
use Rattle.std.proofs.lemmas.Cmp.{tied_itself}
use Rattle.std.specs.Cmp.{nat_cmp_total, nat_cmp_is}
use Rattle.bep_facts.specs.Members.{Contains-first, not_in_none}
use Rattle.bep_model.specs.declared.row.Row.{Row}
use Rattle.bep_model.specs.Tables.{Tables}
use Rattle.bep_model.specs.Settled.{IsSettled}
use Rattle.bep_model.specs.Reasons.{place_cmp}
use Rattle.bep_model.specs.Verdict.{number_of, IsVerdict}
use Rattle.bep_model.specs.Laws.{NumbersDiffer, SettledIsFaultless}
use Rattle.bep_audit.specs.declared.failure.Failure as lends
use Rattle.bep_audit.specs.FailureOrder.{failure_total, lent_cmp}
use Rattle.bep_audit.specs.Walk.{Failure, failure_cmp, failure_shown}
use Rattle.bep_gather.specs.Adding.{AddsFailing}
use Rattle.bep_gather.specs.Distinct.{distinct}
use Rattle.bep_explain.specs.Found.{IsMet, AreFailures, verdict_of}
use Rattle.bep_gather.specs.KeptFacts as kept
use Rattle.bep_explain.proofs.FailureFacts.{failure_exact}

abbrev shown : List lends.Failure → List Failure
shown = map failure_shown

module _ (t : Tables) (rows : List Row) where
  -- all that fails stands in the list, and nothing else
  abbrev pub Tells : List Failure → Type 0
  Tells = kept.Tells failure_cmp (IsMet t rows)

  pub tells : NumbersDiffer → (gathered sorted found : List lends.Failure) → AddsFailing (IsMet t rows) [] (shown gathered) → IsPermutation gathered sorted → IsSorted lent_cmp sorted → found ≡ distinct lent_cmp sorted → Tells (shown found)
  tells different = kept.tells failure_shown failure_cmp failure_total (failure_exact different) (IsMet t rows)

  -- ---- what the caller is told

  pub are_failures : (found : List Failure) → Tells found → AreFailures t rows found
  are_failures found told = record {
    exact = λ one. (told.fails one, λ unmet. ⊎_elim (λ there. there) (λ met. absurd (unmet met)) (told.rest one));
    rise = told.rise;
  }

  pub empty_exactly : SettledIsFaultless → (found : List lends.Failure) → Tells (shown found) → (found ≡ []) ↔ IsSettled t rows
  empty_exactly faultless [] told = (
    λ _. (faultless t rows).1 (λ reason place. ⊎_elim (λ there. absurd (not_in_none (record { reason = reason; place = place }) there)) (λ met. met) (told.rest (record { reason = reason; place = place }))),
    λ _. refl,
  )
  empty_exactly faultless (one ∷ more) told = (
    λ e. absurd (cc),
    λ settled. absurd (told.fails (failure_shown one) (Contains-first (failure_shown one) (shown more)) ((faultless t rows).0 settled (failure_shown one).reason (failure_shown one).place)),
  )

  met_before : (one : Failure) (more : List Failure) → Tells (one ∷ more) → (before : Failure) → failure_cmp before one ≡ Less → IsMet t rows before
  met_before one more told before less = kept.met_before failure_cmp failure_total (IsMet t rows) one more told before less

  then_second : (o p : Ordering) → o ≡ Equal → p ≡ Less → ordering_then o p ≡ Less
  then_second Less p e f = absurd (cc)
  then_second Equal p e f = f
  then_second Greater p e f = absurd (cc)

  then_first : (o p : Ordering) → o ≡ Less → ordering_then o p ≡ Less
  then_first Less p e = refl
  then_first Equal p e = absurd (cc)
  then_first Greater p e = absurd (cc)

  pub tells_verdict : SettledIsFaultless → (found : List Failure) → Tells found → IsVerdict t rows (verdict_of found)
  tells_verdict faultless [] told =
      (faultless t rows).1 (λ reason place. ⊎_elim (λ there. absurd (not_in_none (record { reason = reason; place = place }) there)) (λ met. met) (told.rest (record { reason = reason; place = place })))
  tells_verdict faultless (one ∷ more) told = record {
    fails = told.fails one (Contains-first one more);
    least = λ lesser any below.
        met_before one more told (record { reason = lesser; place = any })
        (then_first (nat_cmp (number_of lesser) (number_of one.reason)) (place_cmp any one.place) (sym (nat_cmp_is (number_of lesser) (number_of one.reason) Less below)));
    first = λ earlier less.
        met_before one more told (record { reason = one.reason; place = earlier })
        (then_second (nat_cmp (number_of one.reason) (number_of one.reason)) (place_cmp earlier one.place) (tied_itself nat_cmp_total (number_of one.reason)) less);
  }
