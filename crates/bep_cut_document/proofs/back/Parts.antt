-- What holds of the parts that are made of each of a list.
use Rattle.std.proofs.Common.{List, [], ◌∷◌, map, Any, Contains}
use Rattle.std.specs.List.{AllByRecursion}
use Rattle.bep_facts.specs.Members.{Contains-first, Contains-more, Contains-image}

pub each_part : {A B : Type 0} (P : B → Type 0) (parts : A → B) (xs : List A) → ((x : A) → Contains xs x → P (parts x)) → AllByRecursion P (map parts xs)
each_part P parts [] each = tt
each_part P parts (x ∷ xs) each = (each x (Contains-first x xs), each_part P parts xs (λ y h. each y (Contains-more x xs y h)))

pub all_parts : {A B : Type 0} (P : B → Type 0) (parts : A → B) (xs : List A) → AllByRecursion (λ x. P (parts x)) xs → AllByRecursion P (map parts xs)
all_parts P parts [] all = tt
all_parts P parts (x ∷ xs) all = (all.0, all_parts P parts xs all.1)

pub any_part : {A B : Type 0} (P : B → Type 0) (parts : A → B) (xs : List A) (x : A) → Contains xs x → P (parts x) → Any P (map parts xs)
any_part P parts xs x h holds = let there = Contains-image parts xs x h in (there.0, parts x, there.1, there.2, holds)
