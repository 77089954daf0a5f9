-- Keys that rise: each is below the next, and none stands twice.
use Rattle.std.proofs.Common.{◌≡◌, ℕ, ◌+◌, ◌<◌, Bool, true, false, true≢false, List, [], ◌∷◌, ◌++◌, map, length, get_or, refl, sym, ap, subst, ◌∙◌, arith}
use Rattle.std.specs.Prelude.{Option}
use Rattle.std.specs.declared.cmp.Ordering.{Ordering}
use Rattle.std.specs.declared.cmp.Ordering.TheVariants.{Less}
use Rattle.std.specs.Ordering.{is_eq, is_lt, eq_by_cmp}
use Rattle.std.specs.Cmp.{IsTotalOrder}
use Rattle.std.specs.List.{list_any, AllByRecursion, AllAdjacentBelow}
use Rattle.std.specs.List.Sorted.{IsStrictlySortedBy}
use Rattle.std.proofs.lemmas.List.{append_assoc, get_or-map, length-map}
use Rattle.std.proofs.lemmas.Map.Keys.{sorted_head, sorted_tail, Less-from_sorted, sorted_from_all_adjacent}
use Rattle.bep_document.specs.declared.fault.DocFault.{DocFault}
use Rattle.bep_document.specs.faults.Judge.{first_in, by_key}

module _ {A K : Type 0} (cmp : K → K → Ordering) (key : A → K) where
  -- ---- each is below the next

  pub rise_by_steps : IsTotalOrder cmp → (xs : List A) → AllAdjacentBelow (λ x y. cmp (key x) (key y) ≡ Less) xs (length xs) → IsStrictlySortedBy cmp (map key xs)
  unfolding IsStrictlySortedBy
  rise_by_steps total [] steps = tt
  rise_by_steps total (x ∷ more) steps =
      let xs : List A = x ∷ more in
      let long : length (map key xs) ≡ length xs = length-map xs key in
      sorted_from_all_adjacent total (map key xs) (key x) (λ k here.
      let inside : k + 1 < length xs = omega (arith, here, long) in
      subst (λ y. cmp y (get_or (map key xs) (k + 1) (key x)) ≡ Less) (sym (get_or-map key xs k x (key x) (omega arith)))
      (subst (λ y. cmp (key (get_or xs k x)) y ≡ Less) (sym (get_or-map key xs (k + 1) x (key x) inside)) (steps k x inside)))

  -- where one isn't, they don't rise
  pub no_rise : (xs : List A) (k n : ℕ) (x y : A) (order : Ordering) (is_below : Bool) → n ≡ k + 1 → n < length xs → x ≡ get_or xs k x → y ≡ get_or xs n y → order ≡ cmp (key x) (key y) → is_below ≡ is_lt order → is_below ≡ false → IsStrictlySortedBy cmp (map key xs) → ⊥
  no_rise xs k n x y order is_below next inside is_x is_y compared told isnt rise =
      let long : length (map key xs) ≡ length xs = length-map xs key in
      let less : cmp (get_or (map key xs) k (key x)) (get_or (map key xs) n (key x)) ≡ Less = Less-from_sorted cmp (map key xs) k n (key x) rise (omega arith) (omega (arith, long, inside)) in
      let at_x : get_or (map key xs) k (key x) ≡ key x = get_or-map key xs k x (key x) (omega arith) ∙ ap key (sym is_x) in
      let at_y : get_or (map key xs) n (key x) ≡ key y = get_or-map key xs n y (key x) inside ∙ ap key (sym is_y) in
      let yes : is_below ≡ true = told ∙ ap is_lt (compared ∙ rw (at_x, at_y) at less) in
      true≢false (sym yes ∙ isnt)

  -- ---- none stands twice

  of_middle : (P : K → Type 0) (front : List A) (x : A) (back : List A) → AllByRecursion P (map key (front ++ x ∷ back)) → P (key x)
  of_middle P [] x back all = all.0
  of_middle P (first ∷ front) x back all = of_middle P front x back all.1

  module _ (same : K → K → Bool) (ties : (k q : K) → same k q ≡ eq_by_cmp cmp k q) where
    none_before : (front : List A) (x : A) (back : List A) → IsStrictlySortedBy cmp (map key (front ++ x ∷ back)) → list_any (λ known. same (key known) (key x)) front ≡ false
    none_before [] x back rise = refl
    none_before (first ∷ front) x back rise =
        let below : cmp (key first) (key x) ≡ Less = of_middle (λ k. cmp (key first) k ≡ Less) front x back (sorted_head cmp (key first) (map key (front ++ x ∷ back)) rise) in
        let apart : same (key first) (key x) ≡ false = ties (key first) (key x) ∙ ap is_eq below in
        let later : list_any (λ known. same (key known) (key x)) front ≡ false = none_before front x back (sorted_tail cmp (key first) (map key (front ++ x ∷ back)) rise) in
        rw (apart, later) refl

    -- so what is first is so also if no key counts as there already
    pub first_of_rising : (fault_of : Bool → A → Option DocFault) (front xs : List A) → IsStrictlySortedBy cmp (map key (front ++ xs)) → first_in (λ _. fault_of false) front xs ≡ first_in (by_key same key fault_of) front xs
    first_of_rising fault_of front [] rise = refl
    first_of_rising fault_of front (x ∷ more) rise =
        let none = none_before front x more rise in
        let rest = first_of_rising fault_of (front ++ x ∷ []) more (subst (λ l. IsStrictlySortedBy cmp (map key l)) (sym (append_assoc front (x ∷ []) more)) rise) in
        rw (none, rest) refl
