-- What the sorted list of all that fail, each once, says: it is all of them, and it rises.
use Rattle.std.proofs.Common.{◌≡◌, ◌⊎◌, ◌↔◌, false, List, [], ◌∷◌, Contains, map, get_or, refl, sym, ap, subst, ◌∙◌, inl, inr, ⊎_elim, arith}
use Rattle.std.specs.declared.cmp.Ordering.{Ordering}
use Rattle.std.specs.declared.cmp.Ordering.TheVariants.{Less, Equal}
use Rattle.std.specs.Ordering.{is_lt}
use Rattle.std.specs.Cmp.{IsTotalOrder}
use Rattle.std.specs.List.Sorted.{IsStrictlySortedBy, IsSorted, IsPermutation}
use Rattle.std.proofs.lemmas.Cmp.{on_total}
use Rattle.std.proofs.lemmas.List.Sorted.{Contains-permutation, IsPermutation-sym}
use Rattle.bep_facts.specs.Members.{Contains-first, Contains-cons_cases, Contains-image, Contains-from_image, not_in_none}
use Rattle.bep_facts.specs.Orders.{not_less_itself}
use Rattle.bep_facts.specs.Rising.{below_later}
use Rattle.bep_gather.specs.Adding.{AddsFailing}
use Rattle.bep_gather.specs.Distinct.{distinct}
use Rattle.bep_gather.specs.DistinctFacts.{distinct_shown, lent, Steps, steps_from_sorted, distinct_rises, kept_in_distinct, distinct_from}

-- all that fails stands in the list, and nothing else
pub record Tells {Y : Type 0} (cmp : Y → Y → Ordering) (IsMet : Y → Type 0) (found : List Y) : Type 0 where
  pub fails : (one : Y) → Contains found one → ¬ IsMet one
  pub rest : (one : Y) → Contains found one ⊎ IsMet one
  pub rise : IsStrictlySortedBy cmp found

module _ {X Y : Type 0} (shown : X → Y) (cmp : Y → Y → Ordering) (total : IsTotalOrder cmp) (exact : (one other : Y) → cmp one other ≡ Equal → one ≡ other) (IsMet : Y → Type 0) where
  steps_shown : (xs : List X) → Steps (lent shown cmp) xs → Steps cmp (map shown xs)
  steps_shown [] steps = tt
  steps_shown (one ∷ []) steps = tt
  steps_shown (one ∷ next ∷ more) steps = (steps.0, steps_shown (next ∷ more) steps.1)

  pub tells : (gathered sorted kept : List X) → AddsFailing IsMet [] (map shown gathered) → IsPermutation gathered sorted → IsSorted (lent shown cmp) sorted → kept ≡ distinct (lent shown cmp) sorted → Tells cmp IsMet (map shown kept)
  tells gathered sorted kept adds permutation in_order is = record {
    fails = λ one there.
        ⊎_elim (λ none. absurd (not_in_none one none)) (λ unmet. unmet) (adds.fails one (to_gathered one (subst (λ all. Contains all one) same there)));
    rest = λ one. ⊎_elim (λ there. inl (subst (λ all. Contains all one) (sym same) (from_gathered one there))) (λ met. inr met) (adds.rest one);
    rise = subst (IsStrictlySortedBy cmp) (sym same) (distinct_rises cmp total (map shown sorted) steps);
  }
    where
      same : map shown kept ≡ distinct cmp (map shown sorted)
      same = ap (map shown) is ∙ distinct_shown shown cmp sorted

      steps : Steps cmp (map shown sorted)
      steps =
          steps_shown sorted
          (steps_from_sorted (lent shown cmp) (on_total shown total) sorted
          (λ k n d next below. subst (λ m. is_lt (lent shown cmp (get_or sorted m d) (get_or sorted k d)) ≡ false) (sym next) (in_order k d (omega arith) (omega (arith, next, below)))))

      to_gathered : (one : Y) → Contains (distinct cmp (map shown sorted)) one → Contains (map shown gathered) one
      to_gathered one there =
          let found = Contains-from_image shown sorted one (distinct_from cmp (map shown sorted) one there) in
          subst (Contains (map shown gathered)) found.2
          (Contains-image shown gathered found.0 (Contains-permutation sorted gathered found.0 (IsPermutation-sym gathered sorted permutation) found.1))

      from_gathered : (one : Y) → Contains (map shown gathered) one → Contains (distinct cmp (map shown sorted)) one
      from_gathered one there =
          let found = Contains-from_image shown gathered one there in
          kept_in_distinct cmp total exact (map shown sorted) steps one
          (subst (Contains (map shown sorted)) found.2 (Contains-image shown sorted found.0 (Contains-permutation gathered sorted found.0 permutation found.1)))

  -- it is empty exactly where nothing fails
  pub empty_exactly : (found : List X) → Tells cmp IsMet (map shown found) → (found ≡ []) ↔ ((one : Y) → IsMet one)
  empty_exactly [] told = (λ _. λ one. ⊎_elim (λ there. absurd (not_in_none one there)) (λ met. met) (told.rest one), λ _. refl)
  empty_exactly (one ∷ more) told = (λ e. absurd (cc), λ all. absurd (told.fails (shown one) (Contains-first (shown one) (map shown more)) (all (shown one))))

  -- so it is all that fails
  pub fails_exactly : (found : List Y) → Tells cmp IsMet found → (one : Y) → Contains found one ↔ (¬ IsMet one)
  fails_exactly found told one = (told.fails one, λ unmet. ⊎_elim (λ there. there) (λ met. absurd (unmet met)) (told.rest one))

-- ---- what comes before the first

module _ {Y : Type 0} (cmp : Y → Y → Ordering) (total : IsTotalOrder cmp) where
  map_same : (xs : List Y) → map (λ x. x) xs ≡ xs
  map_same [] = refl
  map_same (x ∷ xs) = ap (λ rest. x ∷ rest) (map_same xs)

  -- what stands before the first of a list that rises doesn't stand in it
  not_before : (one : Y) (more : List Y) → IsStrictlySortedBy cmp (one ∷ more) → (before : Y) → cmp before one ≡ Less → ¬ Contains (one ∷ more) before
  not_before one more rise before less member =
      ⊎_elim
      (λ same. not_less_itself total one (subst (λ x. cmp x one ≡ Less) (sym same) less))
      (λ later. not_less_itself total one (total.trans one before one (below_later cmp (λ x. x) one more (subst (IsStrictlySortedBy cmp) (sym (map_same (one ∷ more))) rise) before later) less))
      (Contains-cons_cases one more before member)

  -- so what it tells of holds
  pub met_before : (IsMet : Y → Type 0) (one : Y) (more : List Y) → Tells cmp IsMet (one ∷ more) → (before : Y) → cmp before one ≡ Less → IsMet before
  met_before IsMet one more told before less = ⊎_elim (λ there. absurd (not_before one more told.rise before less there)) (λ met. met) (told.rest before)
