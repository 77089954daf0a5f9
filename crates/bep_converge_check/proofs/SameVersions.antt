-- Records that are sorted by weight and then by their counters: those of equal versions stand side by side.
use Rattle.std.proofs.Common.{◌≡◌, ◌⊎◌, ◌≤◌, ◌<◌, ℕ, false, true≢false, List, [], ◌∷◌, length, get_or, refl, sym, ap, subst, ◌∙◌, inl, inr, ⊎_elim, arith}
use Rattle.std.specs.declared.cmp.Ordering.{Ordering}
use Rattle.std.specs.declared.cmp.Ordering.TheVariants.{Less, Equal, Greater}
use Rattle.std.specs.Ordering.{is_lt, nat_cmp, ordering_then, ordering_reverse}
use Rattle.std.specs.Cmp.Lexicographic.{slice_cmp}
use Rattle.std.specs.List.Sorted.{IsSorted}
use Rattle.std.proofs.lemmas.Bool.{cases_lt, cases_order}
use Rattle.std.proofs.lemmas.List.Sorted.{sorted_far, ranks_by}
use Rattle.std.proofs.lemmas.Map.Lookups.{CmpEqualImpliesEq, exact_pairs, exact_unsigned}
use Rattle.bep_facts.specs.Orders.{both_tied}
use Rattle.bep_audit.proofs.FailingRow.{less_by_order}
use Rattle.bep_record.specs.Vector.{RisesAbove, IsVersion, IsAtMost}
use Rattle.bep_record.proofs.VectorFacts.{counter_of-here}
use Rattle.bep_model.specs.Firm.{AreEqual}
use Rattle.bep_converge_check.specs.declared.weight.Weighed.{Weighed}
use Rattle.bep_converge_check.specs.inner.Weight.{weight, counter_cmp, version_cmp, version_in, version_total, weighed_cmp}
use Rattle.bep_converge_check.proofs.WeightFacts.{not_before, heads_within, tails_within}

-- ---- equal versions have the same counters

something_in_nothing : (d : ℕ × ℕ) (v : List (ℕ × ℕ)) (low : ℕ) → RisesAbove low (d ∷ v) → IsAtMost (d ∷ v) [] → ⊥
something_in_nothing d v low rv within =
    let here = counter_of-here d v d.0 refl in
    let le = within d.0 in
    let some = rv.1 in
    omega (arith, here, le, some)

same_above : (u v : List (ℕ × ℕ)) (low : ℕ) → RisesAbove low u → RisesAbove low v → IsAtMost u v → IsAtMost v u → u ≡ v
same_above [] [] low ru rv up down = refl
same_above [] (d ∷ v) low ru rv up down = absurd (something_in_nothing d v low rv down)
same_above (c ∷ u) [] low ru rv up down = absurd (something_in_nothing c u low ru up)
same_above (c ∷ u) (d ∷ v) low ru rv up down =
    ⊎_elim
    (λ same.
    let le = heads_within c d u v same up in
    let ge = heads_within d c v u (sym same) down in
    let values : c.1 ≡ d.1 = omega (arith, le, ge) in
    let rest = same_above u v c.0 ru.3 (subst (λ (n : ℕ). RisesAbove n v) (sym same) rv.3) (tails_within c d u v low ru same up) (tails_within d c v u low rv (sym same) down) in
    let heads : c ≡ d = λ i. (same i, values i) in
    λ i. heads i ∷ rest i)
    (⊎_elim
    (λ less. absurd (not_before c d u v low ru rv up less))
    (λ less. absurd (not_before d c v u low rv ru down less)))
    (cases_order c.0 d.0)

pub same_counters : (u v : List (ℕ × ℕ)) → IsVersion u → IsVersion v → AreEqual u v → u ≡ v
same_counters u v is_u is_v equal = same_above u v 0 is_u is_v equal.0 equal.1

-- ---- only equal versions tie

exact_lists : {X : Type 0} (R : X → X → Ordering) → CmpEqualImpliesEq R → CmpEqualImpliesEq (slice_cmp R)
exact_lists R exact [] [] tied = refl
exact_lists R exact [] (y ∷ ys) tied = absurd (cc)
exact_lists R exact (x ∷ xs) [] tied = absurd (cc)
exact_lists R exact (x ∷ xs) (y ∷ ys) tied =
    let both = both_tied (R x y) (slice_cmp R xs ys) tied in
    let head = exact x y both.0 in
    let rest = exact_lists R exact xs ys both.1 in
    λ i. head i ∷ rest i

version_exact : (u v : List (ℕ × ℕ)) → version_cmp u v ≡ Equal → u ≡ v
version_exact u v tied =
    exact_lists counter_cmp (exact_pairs nat_cmp nat_cmp exact_unsigned exact_unsigned) u v (both_tied (nat_cmp (weight u) (weight v)) (slice_cmp counter_cmp u v) tied).1

-- what isn't below is no lighter
pub no_lighter : (u v : List (ℕ × ℕ)) → is_lt (version_cmp v u) ≡ false → weight u ≤ weight v
no_lighter u v not_less =
    ⊎_elim
    (λ lighter. absurd (true≢false (sym (ap (λ (o : Ordering). is_lt (ordering_then o (slice_cmp counter_cmp v u))) (less_by_order (weight v) (weight u) lighter)) ∙ not_less)))
    (λ not. omega (arith, not))
    (cases_lt (weight v) (weight u))

-- ---- side by side

not_above : (o p : Ordering) → o ≡ ordering_reverse p → is_lt o ≡ false → (p ≡ Less) ⊎ (p ≡ Equal)
not_above o Less e not_less = inl refl
not_above o Equal e not_less = inr refl
not_above o Greater e not_less = absurd (true≢false (sym (ap is_lt e) ∙ not_less))

-- what stands between two of one version has it
between : (u v w : List (ℕ × ℕ)) → u ≡ w → is_lt (version_cmp v u) ≡ false → is_lt (version_cmp w v) ≡ false → u ≡ v
between u v w same first second =
    ⊎_elim
    (λ less.
    let below : version_cmp w v ≡ Less = ap (λ (x : List (ℕ × ℕ)). version_cmp x v) (sym same) ∙ less in
    absurd (true≢false (sym (ap is_lt below) ∙ second)))
    (λ tied. version_exact u v tied)
    (not_above (version_cmp v u) (version_cmp u v) (version_total.antisymm v u) first)

pub between_at : (ones : List Weighed) → IsSorted weighed_cmp ones → (d : Weighed) (i k j : ℕ) → i ≤ k → k ≤ j → j < length ones →
    version_in (get_or ones i d) ≡ version_in (get_or ones j d) → version_in (get_or ones i d) ≡ version_in (get_or ones k d)
between_at ones sorted d i k j first second below same =
    let far = sorted_far (λ (one other : Weighed). is_lt (weighed_cmp one other)) (ranks_by version_total version_in) ones sorted in
    between (version_in (get_or ones i d)) (version_in (get_or ones k d)) (version_in (get_or ones j d)) same
    (far i k d first (omega (arith, second, below))) (far k j d second below)
