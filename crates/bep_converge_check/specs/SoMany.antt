-- How many things there are of a kind (this project's profile).
use Rattle.std.specs.Prelude.{◌≡◌, ◌⊎◌, ⊤, ℕ, List, [], ◌∷◌, length, Contains}

-- none stands twice in the list
abbrev pub HasNoneTwice : {X : Type 0} → List X → Type 0
HasNoneTwice [] = ⊤
HasNoneTwice (one ∷ more) = (¬ Contains more one) × HasNoneTwice more

-- there are so many of the kind: a list has each of them once, and all that it hasn't is of the other kind
pub record AreSoMany {X : Type 0} (Is IsOther : X → Type 0) (count : ℕ) : Type 0 where
  pub all : List X
  pub once : HasNoneTwice all
  pub each : (one : X) → Contains all one → Is one
  pub rest : (one : X) → Contains all one ⊎ IsOther one
  pub counted : length all ≡ count
