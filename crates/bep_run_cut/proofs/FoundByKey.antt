-- What a key finds in a list whose keys rise.
use Rattle.std.proofs.Common.{◌≡◌, ◌∙◌, Bool, true, false, cond, List, [], ◌∷◌, map, Some, None, Contains, refl, sym, ap, subst, ⊎_elim}
use Rattle.std.specs.declared.cmp.Ordering.{Ordering}
use Rattle.std.specs.declared.cmp.Ordering.TheVariants.{Less, Equal}
use Rattle.std.specs.Cmp.{IsTotalOrder}
use Rattle.std.specs.List.{find}
use Rattle.std.specs.List.Sorted.{IsStrictlySortedBy}
use Rattle.std.proofs.lemmas.Cmp.{tied_itself}
use Rattle.std.proofs.lemmas.Map.Keys.{sorted_head, sorted_tail}
use Rattle.bep_facts.specs.Members.{Contains-cons_cases, Contains-first, Contains-image, Contains-more, holds_of_member, not_in_none}

module _ {X K : Type 0} (order : K → K → Ordering) (total : IsTotalOrder order) (key : X → K) (is : K → X → Bool) (has_key : (x : X) → is (key x) x ≡ true) (key_is : (k : K) (x : X) → is k x ≡ true → key x ≡ k) where
  pub found : (xs : List X) (x : X) → IsStrictlySortedBy order (map key xs) → Contains xs x → find (is (key x)) xs ≡ Some x
  found [] x sorted there = absurd (not_in_none x there)
  found (first ∷ more) x sorted there =
      ⊎_elim here (λ later. beyond later (found more x (sorted_tail order (key first) (map key more) sorted) later)) (Contains-cons_cases first more x there)
    where
      here : first ≡ x → find (is (key x)) (first ∷ more) ≡ Some x
      here same = subst (λ (one : X). find (is (key one)) (first ∷ more) ≡ Some one) same (ap (λ b. cond b (Some first) (find (is (key first)) more)) (has_key first))

      beyond : Contains more x → find (is (key x)) more ≡ Some x → find (is (key x)) (first ∷ more) ≡ Some x
      beyond later rest = cases (is (key x) first) refl
        where
          less : order (key first) (key x) ≡ Less
          less = holds_of_member (λ (k : K). order (key first) k ≡ Less) (map key more) (key x) (sorted_head order (key first) (map key more) sorted) (Contains-image key more x later)

          cases : (b : Bool) → is (key x) first ≡ b → cond b (Some first) (find (is (key x)) more) ≡ Some x
          cases true tied =
              let equal : order (key first) (key x) ≡ Equal = ap (order (key first)) (sym (key_is (key x) first tied)) ∙ tied_itself total (key first) in
              let both : Less ≡ Equal = sym less ∙ equal in
              absurd (cc)
          cases false apart = rest

  pub none : (xs : List X) (k : K) → ¬ Contains (map key xs) k → find (is k) xs ≡ None
  none [] k absent = refl
  none (first ∷ more) k absent = cases (is k first) refl (none more k (λ later. absent (Contains-more (key first) (map key more) k later)))
    where
      cases : (b : Bool) → is k first ≡ b → find (is k) more ≡ None → cond b (Some first) (find (is k) more) ≡ None
      cases true tied rest = absurd (absent (subst (Contains (map key (first ∷ more))) (key_is k first tied) (Contains-first (key first) (map key more))))
      cases false apart rest = rest
