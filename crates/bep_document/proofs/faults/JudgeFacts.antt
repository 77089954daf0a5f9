-- Walking a list from its front: the first fault is here, or else behind.
use Rattle.std.proofs.Common.{◌≡◌, ℕ, ◌+◌, ◌<◌, List, ◌∷◌, ◌++◌, [], length, take, drop, get_or, suc, Option, Some, None, refl, sym, ap, ◌∙◌, add-one, drop-cons}
use Rattle.std.proofs.lemmas.List.{take_more}
use Rattle.bep_document.specs.declared.fault.DocFault.{DocFault}
use Rattle.bep_document.specs.faults.Judge.{◌else_at◌, first_in}

-- the rest of a list begins with the item that stands here
pub drop_here : {A : Type 0} (xs : List A) (i : ℕ) (x : A) → i < length xs → x ≡ get_or xs i x → drop i xs ≡ x ∷ drop (i + 1) xs
drop_here xs i x here is = rw (add-one, drop-cons xs i x) (ap (λ y. y ∷ drop (suc i) xs) (sym is))

pub first_in_next : {A : Type 0} (f : List A → A → Option DocFault) (xs : List A) (i : ℕ) (x : A) → i < length xs → x ≡ get_or xs i x → first_in f (take i xs) (drop i xs) ≡ (f (take i xs) x else_at first_in f (take (i + 1) xs) (drop (i + 1) xs))
first_in_next f xs i x here is =
    let cut : drop i xs ≡ x ∷ drop (i + 1) xs = drop_here xs i x here is in
    let front : take (i + 1) xs ≡ take i xs ++ x ∷ [] = take_more xs i x here ∙ ap (λ y. take i xs ++ y ∷ []) (sym is) in
    rw (cut, front) refl

-- the fault at an item is the first of all, where none was before
pub first_is_here : {A : Type 0} (f : List A → A → Option DocFault) (xs : List A) (i : ℕ) (x : A) (fault : DocFault) → i < length xs → x ≡ get_or xs i x → first_in f (take i xs) (drop i xs) ≡ first_in f [] xs → f (take i xs) x ≡ Some fault → Some fault ≡ first_in f [] xs
first_is_here f xs i x fault here is first found =
    sym (ap (λ o. o else_at first_in f (take (i + 1) xs) (drop (i + 1) xs)) found) ∙ sym (first_in_next f xs i x here is) ∙ first

-- the first of all is behind an item without fault
pub first_is_behind : {A : Type 0} (f : List A → A → Option DocFault) (xs : List A) (i : ℕ) (x : A) → i < length xs → x ≡ get_or xs i x → first_in f (take i xs) (drop i xs) ≡ first_in f [] xs → f (take i xs) x ≡ None → first_in f (take (i + 1) xs) (drop (i + 1) xs) ≡ first_in f [] xs
first_is_behind f xs i x here is first none =
    sym (ap (λ o. o else_at first_in f (take (i + 1) xs) (drop (i + 1) xs)) none) ∙ sym (first_in_next f xs i x here is) ∙ first
