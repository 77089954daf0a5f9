-- What is in a list, by its first and the rest, and what holds of all that is in it.
use Rattle.std.proofs.Common.{◌≡◌, ◌⊎◌, List, [], ◌∷◌, Contains, map, subst, inl, inr, ⊎_elim, arith, sym}
use Rattle.std.specs.List.{AllByRecursion, flat_map}
use Rattle.std.proofs.lemmas.List.Elements.{All-contains, All-from_recursion, Contains-append_left, Contains-append_right, Contains-append_cases, Contains-push, Contains-push_cases}

pub not_in_none : {X : Type 0} (x : X) → ¬ Contains [] x
not_in_none x h = absurd (omega (arith, h.1))

pub Contains-first : {X : Type 0} (x : X) (xs : List X) → Contains (x ∷ xs) x
Contains-first x xs = Contains-append_left (x ∷ []) xs x (Contains-push [] x)

pub Contains-more : {X : Type 0} (x : X) (xs : List X) (z : X) → Contains xs z → Contains (x ∷ xs) z
Contains-more x xs z h = Contains-append_right (x ∷ []) xs z h

-- what is in a list of one
pub Contains-one : {X : Type 0} (x z : X) → Contains (x ∷ []) z → x ≡ z
Contains-one x z h = ⊎_elim (λ none. absurd (not_in_none z none)) (λ same. same) (Contains-push_cases [] x z h)

pub Contains-cons_cases : {X : Type 0} (x : X) (xs : List X) (z : X) → Contains (x ∷ xs) z → (x ≡ z) ⊎ Contains xs z
Contains-cons_cases x xs z h =
    ⊎_elim (λ here. inl (Contains-one x z here)) (λ more. inr more) (Contains-append_cases (x ∷ []) xs z h)

pub Contains-pair_cases : {X : Type 0} (x y z : X) → Contains (x ∷ y ∷ []) z → (x ≡ z) ⊎ (y ≡ z)
Contains-pair_cases x y z h = ⊎_elim (λ first. inl first) (λ rest. inr (Contains-one y z rest)) (Contains-cons_cases x (y ∷ []) z h)

-- an element's image is in the images, and each of these is some element's
pub Contains-image : {X Y : Type 0} (f : X → Y) (xs : List X) (x : X) → Contains xs x → Contains (map f xs) (f x)
Contains-image f [] x h = absurd (not_in_none x h)
Contains-image f (y ∷ xs) x h =
    ⊎_elim
    (λ same. subst (λ z. Contains (f y ∷ map f xs) (f z)) same (Contains-first (f y) (map f xs)))
    (λ more. Contains-more (f y) (map f xs) (f x) (Contains-image f xs x more))
    (Contains-cons_cases y xs x h)

pub Contains-from_image : {X Y : Type 0} (f : X → Y) (xs : List X) (y : Y) → Contains (map f xs) y → (x : X) × Contains xs x × (f x ≡ y)
Contains-from_image f [] y h = absurd (not_in_none y h)
Contains-from_image f (x ∷ xs) y h =
    ⊎_elim
    (λ same. (x, Contains-first x xs, same))
    (λ more. let found = Contains-from_image f xs y more in (found.0, Contains-more x xs found.0 found.1, found.2))
    (Contains-cons_cases (f x) (map f xs) y h)

-- an element of one of the lists that are put together is in the whole, and each of these is in some one's list
pub Contains-flat_map : {X Y : Type 0} (f : X → List Y) (xs : List X) (x : X) (y : Y) → Contains xs x → Contains (f x) y → Contains (flat_map f xs) y
Contains-flat_map f [] x y member here = absurd (not_in_none x member)
Contains-flat_map f (first ∷ xs) x y member here =
    ⊎_elim
    (λ same. Contains-append_left (f first) (flat_map f xs) y (subst (λ z. Contains (f z) y) (sym same) here))
    (λ later. Contains-append_right (f first) (flat_map f xs) y (Contains-flat_map f xs x y later here))
    (Contains-cons_cases first xs x member)

pub Contains-from_flat_map : {X Y : Type 0} (f : X → List Y) (xs : List X) (y : Y) → Contains (flat_map f xs) y → (x : X) × Contains xs x × Contains (f x) y
Contains-from_flat_map f [] y member = absurd (not_in_none y member)
Contains-from_flat_map f (first ∷ xs) y member =
    ⊎_elim
    (λ here. (first, Contains-first first xs, here))
    (λ later. let found = Contains-from_flat_map f xs y later in (found.0, Contains-more first xs found.0 found.1, found.2))
    (Contains-append_cases (f first) (flat_map f xs) y member)

-- what holds of each holds of one that is there, and what holds of each key of one's key
pub holds_of_member : {X : Type 0} (P : X → Type 0) (xs : List X) (x : X) → AllByRecursion P xs → Contains xs x → P x
holds_of_member P xs x all h = All-contains P xs x (All-from_recursion P xs all) h

pub holds_of_key : {K X : Type 0} (P : K → Type 0) (key : X → K) (xs : List X) (x : X) → AllByRecursion P (map key xs) → Contains xs x → P (key x)
holds_of_key P key xs x all h = holds_of_member P (map key xs) (key x) all (Contains-image key xs x h)

-- a fact that can be decided holds of each member, or fails at one
pub each_or_one : {X : Type 0} (P : X → Type 0) → ((x : X) → P x ⊎ (¬ P x)) → (xs : List X) → ((x : X) → Contains xs x → P x) ⊎ ((x : X) × (Contains xs x × ¬ P x))
each_or_one P decide [] = inl (λ x member. absurd (not_in_none x member))
each_or_one P decide (x ∷ xs) =
    ⊎_elim
    (λ here.
    ⊎_elim
    (λ rest. inl (λ z member. ⊎_elim (λ same. subst P same here) (λ more. rest z more) (Contains-cons_cases x xs z member)))
    (λ one. inr (one.0, (Contains-more x xs one.0 one.1.0, one.1.1)))
    (each_or_one P decide xs))
    (λ fails. inr (x, (Contains-first x xs, fails)))
    (decide x)
