-- What a search by a key finds in a list whose keys rise.
use Rattle.std.proofs.Common.{◌≡◌, Bool, true, false, cond, List, [], ◌∷◌, map, Some, Contains, refl, ap, subst, ◌∙◌, ⊎_elim, get_or, All, Any}
use Rattle.std.specs.declared.cmp.Ordering.{Ordering}
use Rattle.std.specs.Ordering.{is_eq, eq_by_cmp}
use Rattle.std.specs.FinMap.{IsAntisymmetric}
use Rattle.std.proofs.lemmas.List.Elements.{Contains-get_or}
use Rattle.std.specs.Cmp.{IsTotalOrder, Equal-is, eq_by_cmp_equiv}
use Rattle.std.specs.List.{find, list_any}
use Rattle.std.specs.List.Sorted.{IsStrictlySortedBy}
use Rattle.std.proofs.lemmas.Cmp.{tied_itself}
use Rattle.std.proofs.lemmas.Map.Keys.{sorted_tail}
use Rattle.std.proofs.lemmas.Map.Views.{list_any-from_Contains, Contains-from_any}
use Rattle.std.proofs.lemmas.Option.{none-some}
use Rattle.bep_facts.specs.Members.{Contains-cons_cases, Contains-first, Contains-more, not_in_none}
use Rattle.bep_facts.specs.Rising.{below_later}

-- an element is found by its key
pub found_itself : {K X : Type 0} {R : K → K → Ordering} (o : IsTotalOrder R) (key : X → K) (xs : List X) (x : X) → IsStrictlySortedBy R (map key xs) → Contains xs x → find (λ y. is_eq (R (key y) (key x))) xs ≡ Some x
found_itself o key [] x rise h = absurd (not_in_none x h)
found_itself {R = R} o key (y ∷ xs) x rise h =
    ⊎_elim
    (λ same. ap (λ b. cond b (Some y) (find (λ z. is_eq (R (key z) (key x))) xs)) (ap (λ z. is_eq (R (key z) (key x))) same ∙ ap is_eq (tied_itself o (key x))) ∙ ap Some same)
    (λ more.
    ap (λ b. cond b (Some y) (find (λ z. is_eq (R (key z) (key x))) xs)) (ap is_eq (below_later R key y xs rise x more))
    ∙ found_itself o key xs x (sorted_tail R (key y) (map key xs) rise) more)
    (Contains-cons_cases y xs x h)

-- what is found is an element that passes the test
pub find_gives : {X : Type 0} (test : X → Bool) (xs : List X) (x : X) → find test xs ≡ Some x → Contains xs x × (test x ≡ true)
find_gives test [] x found = absurd (none-some x found)
find_gives test (y ∷ xs) x found = cases (test y) refl (find_gives test xs x) found where
  cases : (b : Bool) → test y ≡ b → (find test xs ≡ Some x → Contains xs x × (test x ≡ true)) → cond b (Some y) (find test xs) ≡ Some x → Contains (y ∷ xs) x × (test x ≡ true)
  cases true passes later e = let same : y ≡ x = cc in (subst (Contains (y ∷ xs)) same (Contains-first y xs), subst (λ z. test z ≡ true) same passes)
  cases false fails later e = let found = later e in (Contains-more y xs x found.0, found.1)

-- where a fact holds of any element, it holds of some element
pub any_gives : {X : Type 0} (P : X → Type 0) (xs : List X) → Any P xs → (x : X) × Contains xs x × P x
any_gives P xs any = (any.1, (any.0, any.2, any.3), any.4)

-- an element ties with some element
pub any_tied : {K : Type 0} {R : K → K → Ordering} (o : IsTotalOrder R) (key : K) (keys : List K) → Contains keys key → list_any (eq_by_cmp R key) keys ≡ true
any_tied o key keys h = list_any-from_Contains (eq_by_cmp_equiv o) key keys h

-- what ties with an element is one, where only equal keys tie
pub one_tied : {K : Type 0} {R : K → K → Ordering} → IsAntisymmetric R → (key : K) (keys : List K) → list_any (eq_by_cmp R key) keys ≡ true → Contains keys key
one_tied exact key keys h = Contains-from_any (λ x y e. exact x y ((Equal-is _).0 e)) key keys h

-- what holds of all is what holds of each element
pub all_from_each : {X : Type 0} (P : X → Type 0) (xs : List X) → ((x : X) → Contains xs x → P x) → All P xs
all_from_each P xs each = λ k d below. each (get_or xs k d) (Contains-get_or xs k d below)
