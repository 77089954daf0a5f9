-- Lists whose keys rise by an order, each below all later ones.
use Rattle.std.proofs.Common.{◌≡◌, List, [], ◌∷◌, ◌++◌, Contains, map, subst, ⊎_elim}
use Rattle.std.specs.declared.cmp.Ordering.{Ordering}
use Rattle.std.specs.declared.cmp.Ordering.TheVariants.{Less}
use Rattle.std.specs.Cmp.{IsTotalOrder}
use Rattle.std.specs.List.{AllByRecursion}
use Rattle.std.specs.List.Sorted.{IsStrictlySortedBy}
use Rattle.std.proofs.lemmas.Map.Keys.{sorted_head, sorted_tail}
use Rattle.std.proofs.lemmas.List.Elements.{Contains-append_right}
use Rattle.bep_facts.specs.Members.{not_in_none, Contains-first, Contains-cons_cases, holds_of_key}

-- what is below a key is below all that the key is below
pub below_all : {K : Type 0} {R : K → K → Ordering} → IsTotalOrder R → (low key : K) (more : List K) → R low key ≡ Less → AllByRecursion (λ k. R key k ≡ Less) more → AllByRecursion (λ k. R low k ≡ Less) more
below_all total low key [] less all = tt
below_all total low key (next ∷ more) less all = (total.trans low key next less all.0, below_all total low key more less all.1)

module _ {X K : Type 0} (R : K → K → Ordering) (key : X → K) where
  -- the first is below each later one
  pub below_later : (x : X) (xs : List X) → IsStrictlySortedBy R (map key (x ∷ xs)) → (later : X) → Contains xs later → R (key x) (key later) ≡ Less
  below_later x xs rise later member = holds_of_key (λ k. R (key x) k ≡ Less) key xs later (sorted_head R (key x) (map key xs) rise) member

  -- a list rises where each is above the one before it
  pub sorted_from_steps : IsTotalOrder R → (Rises : List X → Type 0) → ((x next : X) (more : List X) → Rises (x ∷ next ∷ more) → (R (key x) (key next) ≡ Less) × Rises (next ∷ more)) → (xs : List X) → Rises xs → IsStrictlySortedBy R (map key xs)
  unfolding IsStrictlySortedBy
  sorted_from_steps total Rises steps [] rise = tt
  sorted_from_steps total Rises steps (x ∷ []) rise = (tt, tt)
  sorted_from_steps total Rises steps (x ∷ next ∷ more) rise =
      let step = steps x next more rise in
      let rest = sorted_from_steps total Rises steps (next ∷ more) step.1 in
      ((step.0, below_all total (key x) (key next) (map key more) step.0 rest.0), rest)

  -- ---- the two parts of a list that rises

  pub back_is_sorted : (front back : List X) → IsStrictlySortedBy R (map key (front ++ back)) → IsStrictlySortedBy R (map key back)
  back_is_sorted [] back rise = rise
  back_is_sorted (x ∷ front) back rise = back_is_sorted front back (sorted_tail R (key x) (map key (front ++ back)) rise)

  all_of_front : (P : K → Type 0) (front back : List X) → AllByRecursion P (map key (front ++ back)) → AllByRecursion P (map key front)
  all_of_front P [] back all = tt
  all_of_front P (x ∷ front) back all = (all.0, all_of_front P front back all.1)

  pub front_is_sorted : (front back : List X) → IsStrictlySortedBy R (map key (front ++ back)) → IsStrictlySortedBy R (map key front)
  unfolding IsStrictlySortedBy
  front_is_sorted [] back rise = tt
  front_is_sorted (x ∷ front) back rise = (all_of_front (λ k. R (key x) k ≡ Less) front back rise.0, front_is_sorted front back rise.1)

  pub front_is_below : (front : List X) (x : X) (back : List X) → IsStrictlySortedBy R (map key (front ++ x ∷ back)) → (earlier : X) → Contains front earlier → R (key earlier) (key x) ≡ Less
  front_is_below [] x back rise earlier member = absurd (not_in_none earlier member)
  front_is_below (first ∷ front) x back rise earlier member =
      ⊎_elim
      (λ same. subst (λ z. R (key z) (key x) ≡ Less) same (below_later first (front ++ x ∷ back) rise x (Contains-append_right front (x ∷ back) x (Contains-first x back))))
      (λ later. front_is_below front x back (sorted_tail R (key first) (map key (front ++ x ∷ back)) rise) earlier later)
      (Contains-cons_cases first front earlier member)
