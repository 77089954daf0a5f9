-- What is gathered of a list, place by place.
use Rattle.std.proofs.Common.{◌≡◌, ◌<◌, ◌∙◌, ◌+◌, ◌++◌, ℕ, List, [], ◌∷◌, Some, length, get_or, map, take, drop, flat_map, sym, ap}
use Rattle.std.specs.List.{AllByRecursion, slice_get}
use Rattle.std.proofs.lemmas.Grind.{flat_map-append}
use Rattle.std.proofs.lemmas.List.{append_assoc, append-nil}
use Rattle.std.proofs.lemmas.Option.{slice_get_within, get_or_from_slice_get}
use Rattle.bep_facts.specs.Places.{done_with, rest_at}

-- what was gathered up to a place, with what the element there gives
pub with_next : {X Y : Type 0} (f : X → List Y) (xs : List X) (place : ℕ) (x : X) (first before now : List Y) → slice_get xs place ≡ Some x →
    before ≡ first ++ flat_map f (take place xs) → now ≡ before ++ f x → now ≡ first ++ flat_map f (take (place + 1) xs)
with_next {X} {Y} f xs place x first before now is was made =
    made
    ∙ ap (λ (ys : List Y). ys ++ f x) was
    ∙ append_assoc first (flat_map f (take place xs)) (f x)
    ∙ ap (λ (ys : List Y). first ++ ys) (sym next)
  where
    next : flat_map f (take (place + 1) xs) ≡ flat_map f (take place xs) ++ f x
    next =
        ap (flat_map f) (done_with xs place x (slice_get_within xs place x is) (sym (get_or_from_slice_get xs place x x is)))
        ∙ flat_map-append f (take place xs) (x ∷ [])
        ∙ ap (λ (ys : List Y). flat_map f (take place xs) ++ ys) (append-nil (f x))

-- one more at the end
pub all_pushed : {X : Type 0} (P : X → Type 0) (xs : List X) (x : X) → AllByRecursion P xs → P x → AllByRecursion P (xs ++ x ∷ [])
all_pushed P [] x all one = (one, tt)
all_pushed P (first ∷ xs) x all one = (all.0, all_pushed P xs x all.1 one)

-- what was made of a list so far with what is left to make is all of it, one place on
pub mapped_next : {X Y : Type 0} (f : X → Y) (xs : List X) (place : ℕ) (x : X) (made now : List Y) (y : Y) (all : List Y) → place < length xs → x ≡ get_or xs place x →
    now ≡ made ++ y ∷ [] → y ≡ f x → made ++ map f (drop place xs) ≡ all → now ++ map f (drop (place + 1) xs) ≡ all
mapped_next {X} {Y} f xs place x made now y all below is pushed same before =
    ap (λ (ys : List Y). ys ++ map f (drop (place + 1) xs)) pushed
    ∙ append_assoc made (y ∷ []) (map f (drop (place + 1) xs))
    ∙ ap (λ (one : Y). made ++ one ∷ map f (drop (place + 1) xs)) same
    ∙ ap (λ (rest : List X). made ++ map f rest) (sym (rest_at xs place x below is))
    ∙ before
