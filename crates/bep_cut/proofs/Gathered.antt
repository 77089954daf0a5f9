-- Lists that are gathered of another one, of each of its elements one or none; and rising lists.
use Rattle.std.proofs.Common.{◌≡◌, ◌⊎◌, ◌≤◌, ◌++◌, ◌∙◌, ℕ, List, [], ◌∷◌, All, Contains, length, get_or, map, flat_map, ap, sym, subst, ⊎_elim, arith}
use Rattle.std.specs.declared.cmp.Ordering.TheVariants.{Less}
use Rattle.std.specs.Ordering.{nat_cmp}
use Rattle.std.specs.Cmp.{nat_cmp_total}
use Rattle.std.specs.List.{AllByRecursion}
use Rattle.std.specs.List.Sorted.{IsStrictlySortedBy}
use Rattle.std.proofs.lemmas.List.Elements.{Contains-get_or, recursion_from_All}
use Rattle.bep_facts.specs.Members.{Contains-cons_cases, Contains-first, Contains-from_flat_map, Contains-from_image, Contains-image, Contains-more, Contains-one, holds_of_member, not_in_none}
use Rattle.bep_facts.specs.Orders.{not_less_itself}

-- what holds of each element holds of all
pub all_each : {X : Type 0} (P : X → Type 0) (xs : List X) → ((x : X) → Contains xs x → P x) → All P xs
all_each P xs each = λ k d below. each (get_or xs k d) (Contains-get_or xs k d below)

-- of each element there is one, with its key, or none
module _ {X Y : Type 0} (k : X → ℕ) (key : Y → ℕ) (g : X → List Y) (one_or_none : (x : X) → (g x ≡ []) ⊎ ((y : Y) × (g x ≡ y ∷ []) × (key y ≡ k x))) where
  pub from_one : (xs : List X) (y : Y) → Contains (flat_map g xs) y → (x : X) × Contains xs x × (key y ≡ k x)
  from_one xs y stands =
      let from = Contains-from_flat_map g xs y stands in (
        from.0,
        from.1,
        ⊎_elim
            (λ none. absurd (not_in_none y (subst (λ (ys : List Y). Contains ys y) none from.2)))
            (λ one. ap key (sym (Contains-one one.0 y (subst (λ (ys : List Y). Contains ys y) one.1 from.2))) ∙ one.2)
            (one_or_none from.0),
      )

  -- where the keys of the list rise, those of what is gathered do
  pub gathered_rise : (xs : List X) → IsStrictlySortedBy nat_cmp (map k xs) → IsStrictlySortedBy nat_cmp (map key (flat_map g xs))
  unfolding IsStrictlySortedBy
  gathered_rise [] sorted = tt
  gathered_rise (x ∷ xs) sorted =
      let rest = gathered_rise xs sorted.1 in
      ⊎_elim
      (λ none. subst (λ (ys : List Y). IsStrictlySortedBy nat_cmp (map key (ys ++ flat_map g xs))) (sym none) rest)
      (λ one. subst (λ (ys : List Y). IsStrictlySortedBy nat_cmp (map key (ys ++ flat_map g xs))) (sym one.1) (above one.0 one.2, rest))
      (one_or_none x)
    where
      above : (y : Y) → key y ≡ k x → AllByRecursion (λ (n : ℕ). nat_cmp (key y) n ≡ Less) (map key (flat_map g xs))
      above y same =
          recursion_from_All (λ (n : ℕ). nat_cmp (key y) n ≡ Less) (map key (flat_map g xs)) (all_each (λ (n : ℕ). nat_cmp (key y) n ≡ Less) (map key (flat_map g xs)) (λ n stands.
          let image = Contains-from_image key (flat_map g xs) n stands in
          let from = from_one xs image.0 image.1 in
          ap (λ (m : ℕ). nat_cmp m n) same
          ∙ ap (nat_cmp (k x)) (sym image.2 ∙ from.2)
          ∙ holds_of_member (λ (m : ℕ). nat_cmp (k x) m ≡ Less) (map k xs) (k from.0) sorted.0 (Contains-image k xs from.0 from.1)))

-- a rising list of members of another one isn't longer
pub no_longer : (xs ys : List ℕ) → IsStrictlySortedBy nat_cmp xs → IsStrictlySortedBy nat_cmp ys → ((n : ℕ) → Contains xs n → Contains ys n) → length xs ≤ length ys
unfolding IsStrictlySortedBy
no_longer [] ys one other within = omega arith
no_longer (x ∷ xs) [] one other within = absurd (not_in_none x (within x (Contains-first x xs)))
no_longer (x ∷ xs) (y ∷ ys) one other within = let rest = no_longer xs ys one.1 other.1 later in omega arith
  where
    apart : (n : ℕ) → nat_cmp x n ≡ Less → y ≡ n → ⊥
    apart n less same =
        ⊎_elim
        (λ (first : y ≡ x). not_less_itself nat_cmp_total x (ap (nat_cmp x) (sym first ∙ same) ∙ less))
        (λ more.
        let above : nat_cmp n x ≡ Less = ap (λ (m : ℕ). nat_cmp m x) (sym same) ∙ holds_of_member (λ (m : ℕ). nat_cmp y m ≡ Less) ys x other.0 more in
        not_less_itself nat_cmp_total x (nat_cmp_total.trans x n x less above))
        (Contains-cons_cases y ys x (within x (Contains-first x xs)))

    later : (n : ℕ) → Contains xs n → Contains ys n
    later n stands =
        ⊎_elim
        (λ same. absurd (apart n (holds_of_member (λ (m : ℕ). nat_cmp x m ≡ Less) xs n one.0 stands) same))
        (λ more. more)
        (Contains-cons_cases y ys n (within n (Contains-more x xs n stands)))
