-- A sorted list of which those remain that are below the next: it rises, and has the same elements.
use Rattle.std.proofs.Common.{◌≡◌, ◌⊎◌, ◌<◌, ◌+◌, ℕ, suc, Bool, true, false, true≢false, cond, List, [], ◌∷◌, map, length, get_or, Contains, refl, sym, ap, subst, ◌∙◌, inl, inr, ⊎_elim, arith}
use Rattle.std.specs.Prelude.{⊤}
use Rattle.std.specs.declared.cmp.Ordering.{Ordering}
use Rattle.std.specs.declared.cmp.Ordering.TheVariants.{Less, Equal, Greater}
use Rattle.std.specs.Ordering.{is_lt, ordering_reverse}
use Rattle.std.specs.Cmp.{IsTotalOrder}
use Rattle.std.specs.List.{AllByRecursion}
use Rattle.std.specs.List.Sorted.{IsStrictlySortedBy}
use Rattle.std.proofs.lemmas.Cmp.{alike_right}
use Rattle.bep_facts.specs.Members.{Contains-first, Contains-more, Contains-cons_cases}
use Rattle.bep_facts.specs.Orders.{Less_from_is_lt}
use Rattle.bep_gather.specs.Distinct.{is_below_next, distinct}

-- ---- by images

module _ {X Y : Type 0} (shown : X → Y) (cmp : Y → Y → Ordering) where
  abbrev pub lent : X → X → Ordering
  lent one other = cmp (shown one) (shown other)

  same_test : (one : X) (more : List X) → is_below_next lent one more ≡ is_below_next cmp (shown one) (map shown more)
  same_test one [] = refl
  same_test one (next ∷ more) = refl

  -- the images of what remains are what remains of the images
  pub distinct_shown : (xs : List X) → map shown (distinct lent xs) ≡ distinct cmp (map shown xs)
  distinct_shown [] = refl
  distinct_shown (one ∷ more) =
      cases (is_below_next lent one more) (distinct_shown more)
      ∙ ap (λ b. cond b (shown one ∷ distinct cmp (map shown more)) (distinct cmp (map shown more))) (same_test one more)
    where
      cases : (b : Bool) → map shown (distinct lent more) ≡ distinct cmp (map shown more) →
          map shown (cond b (one ∷ distinct lent more) (distinct lent more)) ≡ cond b (shown one ∷ distinct cmp (map shown more)) (distinct cmp (map shown more))
      cases true same = ap (λ rest. shown one ∷ rest) same
      cases false same = same

-- ---- what remains rises

module _ {X : Type 0} (cmp : X → X → Ordering) where
  -- each is below the next, or ties with it
  abbrev pub Steps : List X → Type 0
  Steps [] = ⊤
  Steps (one ∷ []) = ⊤
  Steps (one ∷ next ∷ more) = ((cmp one next ≡ Less) ⊎ (cmp one next ≡ Equal)) × Steps (next ∷ more)

module _ {X : Type 0} (cmp : X → X → Ordering) (total : IsTotalOrder cmp) where
  not_above : (o p : Ordering) → o ≡ ordering_reverse p → is_lt o ≡ false → (p ≡ Less) ⊎ (p ≡ Equal)
  not_above o Less e not_less = inl refl
  not_above o Equal e not_less = inr refl
  not_above o Greater e not_less = let turned : is_lt o ≡ true = ap is_lt e in absurd (true≢false (sym turned ∙ not_less))

  -- what is sorted is so
  pub steps_from_sorted : (xs : List X) → ((k n : ℕ) (d : X) → n ≡ k + 1 → n < length xs → is_lt (cmp (get_or xs n d) (get_or xs k d)) ≡ false) → Steps cmp xs
  steps_from_sorted [] sorted = tt
  steps_from_sorted (one ∷ []) sorted = tt
  steps_from_sorted (one ∷ next ∷ more) sorted = (
    not_above (cmp next one) (cmp one next) (total.antisymm next one) (sorted 0 1 one refl (omega arith)),
    steps_from_sorted (next ∷ more) (λ k n d is below. sorted (suc k) (suc n) d (omega (arith, is)) (omega (arith, below))),
  )

  -- what is below the first is below all that remain
  below_rest : (low one : X) (more : List X) → Steps cmp (one ∷ more) → cmp low one ≡ Less → AllByRecursion (λ x. cmp low x ≡ Less) (distinct cmp (one ∷ more))
  below_rest low one [] steps less = (less, tt)
  below_rest low one (next ∷ more) steps less =
      below_rest_by (is_lt (cmp one next)) (below_rest low next more steps.1 (⊎_elim (λ below. total.trans low one next less below) (λ tied. sym (alike_right total one next low tied) ∙ less) steps.0))
    where
      below_rest_by : (b : Bool) → AllByRecursion (λ x. cmp low x ≡ Less) (distinct cmp (next ∷ more)) → AllByRecursion (λ x. cmp low x ≡ Less) (cond b (one ∷ distinct cmp (next ∷ more)) (distinct cmp (next ∷ more)))
      below_rest_by true rest = (less, rest)
      below_rest_by false rest = rest

  pub distinct_rises : (xs : List X) → Steps cmp xs → IsStrictlySortedBy cmp (distinct cmp xs)
  unfolding IsStrictlySortedBy
  distinct_rises [] steps = tt
  distinct_rises (one ∷ []) steps = (tt, tt)
  distinct_rises (one ∷ next ∷ more) steps = by_test (is_lt (cmp one next)) refl (distinct_rises (next ∷ more) steps.1) where
    by_test : (b : Bool) → is_lt (cmp one next) ≡ b → IsStrictlySortedBy cmp (distinct cmp (next ∷ more)) → IsStrictlySortedBy cmp (cond b (one ∷ distinct cmp (next ∷ more)) (distinct cmp (next ∷ more)))
    by_test true less rest = (below_rest one next more steps.1 (Less_from_is_lt (cmp one next) less), rest)
    by_test false not_less rest = rest

  -- ---- it has the same elements, where only equal ones tie

  pub kept_in_distinct : ((one other : X) → cmp one other ≡ Equal → one ≡ other) → (xs : List X) → Steps cmp xs → (x : X) → Contains xs x → Contains (distinct cmp xs) x
  kept_in_distinct exact [] steps x there = there
  kept_in_distinct exact (one ∷ []) steps x there = there
  kept_in_distinct exact (one ∷ next ∷ more) steps x there = by_test (is_lt (cmp one next)) refl (kept_in_distinct exact (next ∷ more) steps.1 x) where
    tied : is_lt (cmp one next) ≡ false → one ≡ next
    tied not_less = ⊎_elim (λ below. absurd (true≢false (sym (ap is_lt below) ∙ not_less))) (λ equal. exact one next equal) steps.0

    by_test : (b : Bool) → is_lt (cmp one next) ≡ b → (Contains (next ∷ more) x → Contains (distinct cmp (next ∷ more)) x) → Contains (cond b (one ∷ distinct cmp (next ∷ more)) (distinct cmp (next ∷ more))) x
    by_test true less later =
        ⊎_elim
        (λ same. subst (λ z. Contains (one ∷ distinct cmp (next ∷ more)) z) same (Contains-first one (distinct cmp (next ∷ more))))
        (λ rest. Contains-more one (distinct cmp (next ∷ more)) x (later rest))
        (Contains-cons_cases one (next ∷ more) x there)
    by_test false not_less later =
        later (⊎_elim (λ same. subst (Contains (next ∷ more)) (sym (tied not_less) ∙ same) (Contains-first next more)) (λ rest. rest) (Contains-cons_cases one (next ∷ more) x there))

-- and no others
pub distinct_from : {X : Type 0} (cmp : X → X → Ordering) (xs : List X) (x : X) → Contains (distinct cmp xs) x → Contains xs x
distinct_from cmp [] x there = there
distinct_from cmp (one ∷ more) x there = by_test (is_below_next cmp one more) there (distinct_from cmp more x) where
  by_test : (b : Bool) → Contains (cond b (one ∷ distinct cmp more) (distinct cmp more)) x → (Contains (distinct cmp more) x → Contains more x) → Contains (one ∷ more) x
  by_test true member later =
      ⊎_elim
      (λ same. subst (Contains (one ∷ more)) same (Contains-first one more))
      (λ rest. Contains-more one more x (later rest))
      (Contains-cons_cases one (distinct cmp more) x member)
  by_test false member later = Contains-more one more x (later member)
