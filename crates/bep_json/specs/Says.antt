-- What a tree says, and that what is written of numbers and of lists is read again, for the proofs of other crates too.
use Rattle.std.specs.Prelude.{◌≡◌, ◌≤◌, ℕ, ◌&&◌, nat_le, Bool, true, List, [], ◌∷◌, map, Option, Some}
use Rattle.std.specs.List.{AllByRecursion}
use Rattle.std.proofs.Common.{refl, ap, ◌∙◌, arith}
use Rattle.std.proofs.lemmas.Bool.Decides.{nat_tests}
use Rattle.serde_json.specs.Data.{Data}
use Rattle.serde_json.specs.View.{items_of}
use Rattle.bep_json.specs.Reading.{◌>>=◌}
use Rattle.bep_json.specs.Numbers.{is_whole, read_number}
use Rattle.bep_json.specs.Lists.{have_shape, is_list, read_items, read_list}
use Rattle.bep_json.specs.Written.{whole, list_of}

-- the tree has the shape of a thing, and says this one
abbrev pub Says : {T : Type 0} → (Data → Bool) → (Data → Option T) → T → Data → Type 0
Says shape reads thing tree = (shape tree ≡ true) × (reads tree ≡ Some thing)

-- both tests pass
pub both_are : {a b : Bool} → a ≡ true → b ≡ true → (a && b) ≡ true
both_are {a} {b} first second = rw (first, second)

-- a step of a reading that gives this thing, and what the steps behind it give
pub then_read : {A B : Type 0} {o : Option A} {x : A} {r : Option B} (next : A → Option B) → o ≡ Some x → next x ≡ r → (o >>= next) ≡ r
then_read next first rest = ap (λ p. p >>= next) first ∙ rest

-- a number in its range is read again
pub number_says : (low high n : ℕ) → low ≤ n → n ≤ high → Says is_whole (read_number low high) n (whole n)
number_says low high n above below =
    let first : nat_le low n ≡ true = grind (arith, nat_tests) in
    let second : nat_le n high ≡ true = grind (arith, nat_tests) in
    (refl, rw (first, second))

items_say : {X T : Type 0} (shape : Data → Bool) (reads : Data → Option T) (thing_of : X → T) (written : X → Data) (xs : List X) → AllByRecursion (λ x. Says shape reads (thing_of x) (written x)) xs → (have_shape shape (items_of (map written xs)) ≡ true) × (read_items reads (items_of (map written xs)) ≡ Some (map thing_of xs))
items_say shape reads thing_of written [] all = (refl, refl)
items_say shape reads thing_of written (x ∷ more) all =
    let rest = items_say shape reads thing_of written more all.1 in
    (both_are all.0.0 rest.0, then_read _ all.0.1 (then_read _ rest.1 refl))

-- a list of what says each thing says them all
pub list_says : {X T : Type 0} (shape : Data → Bool) (reads : Data → Option T) (thing_of : X → T) (written : X → Data) (xs : List X) → AllByRecursion (λ x. Says shape reads (thing_of x) (written x)) xs → Says (is_list shape) (read_list reads) (map thing_of xs) (list_of (map written xs))
list_says shape reads thing_of written xs all = items_say shape reads thing_of written xs all
