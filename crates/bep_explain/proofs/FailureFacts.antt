-- Only equal failures tie, so it can be decided whether two are equal.
use Rattle.std.proofs.Common.{◌≡◌, ℕ, Option, Some, None, refl, sym, ap, ◌∙◌, inl, inr, ⊎_elim, arith}
use Rattle.std.specs.declared.cmp.Ordering.TheVariants.{Less, Equal, Greater}
use Rattle.std.specs.Ordering.{nat_cmp, ordering_then}
use Rattle.std.specs.Cmp.Lexicographic.{slice_cmp}
use Rattle.std.proofs.lemmas.Cmp.{ranked}
use Rattle.std.proofs.lemmas.Map.Lookups.{exact_bytes}
use Rattle.bep_facts.specs.Decided.{OrNot}
use Rattle.bep_facts.specs.Orders.{order_cases, both_tied, Equal_from_same}
use Rattle.bep_gather.specs.PlaceFacts.{same_number, same_place}
use Rattle.bep_model.specs.Tables.{Device}
use Rattle.bep_model.specs.Reasons.{Place, place_cmp, device_rank}
use Rattle.bep_model.specs.Verdict.{number_of}
use Rattle.bep_model.specs.Laws.{NumbersDiffer}
use Rattle.bep_audit.specs.FailureOrder.{failure_total}
use Rattle.bep_audit.specs.Walk.{Failure, failure_cmp}

module _ (different : NumbersDiffer) where
  pub failure_exact : (one other : Failure) → failure_cmp one other ≡ Equal → one ≡ other
  failure_exact one other tied =
      let both = both_tied (nat_cmp (number_of one.reason) (number_of other.reason)) (place_cmp one.place other.place) tied in
      let reason = different one.reason other.reason (same_number (number_of one.reason) (number_of other.reason) both.0) in
      let place = same_place one.place other.place both.1 in
      λ i. record { reason = reason i; place = place i }

  pub same_or_not : (one other : Failure) → OrNot (one ≡ other)
  same_or_not one other =
      ⊎_elim
      (λ less. inr (λ same. let e : Less ≡ Equal = sym less ∙ Equal_from_same failure_total one other same in cc))
      (⊎_elim
      (λ equal. inl (failure_exact one other equal))
      (λ greater. inr (λ same. let e : Greater ≡ Equal = sym greater ∙ Equal_from_same failure_total one other same in cc)))
      (order_cases (failure_cmp one other))
