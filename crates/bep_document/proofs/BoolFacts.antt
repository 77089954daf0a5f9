-- What a test of two parts tells of each, and what one of a list tells of some element.
use Rattle.std.proofs.Common.{◌≡◌, ◌&&◌, ◌||◌, Bool, true, false, List, Any, refl}
use Rattle.std.specs.List.{list_any}
use Rattle.std.proofs.lemmas.List.Folds.{Any-from_list_any}

pub both_true : (a b : Bool) → (a && b) ≡ true → (a ≡ true) × (b ≡ true)
both_true true b e = (refl, e)
both_true false b e = (e, absurd (different e)) where
  different : false ≡ true → ⊥
  different d = cc

pub both_false : (a b : Bool) → (a || b) ≡ false → (a ≡ false) × (b ≡ false)
both_false true b e = (e, absurd (different e)) where
  different : true ≡ false → ⊥
  different d = cc
both_false false b e = (refl, e)

-- an element that passes a test
pub some_passes : {A : Type 0} {P : A → Type 0} (test : A → Bool) → ((x : A) → test x ≡ true → P x) → (xs : List A) → list_any test xs ≡ true → Any P xs
some_passes test tells xs e =
    let found = Any-from_list_any test xs e in
    (found.0, found.1, found.2, found.3, tells found.1 found.4)
