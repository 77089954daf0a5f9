-- Adding to a list what doesn't hold.
use Rattle.std.specs.Prelude.{◌⊎◌, List, Contains}

-- those of which this doesn't hold are added to the list, and no others
pub record AddsFailing {X : Type 0} (Holds : X → Type 0) (old new : List X) : Type 0 where
  pub keeps : (one : X) → Contains old one → Contains new one
  pub fails : (one : X) → Contains new one → Contains old one ⊎ (¬ Holds one)
  pub rest : (one : X) → Contains new one ⊎ Holds one

-- what each of these says of one
abbrev pub Each : {X Y : Type 0} → (Y → X → Type 0) → List Y → X → Type 0
Each {X} {Y} Says ys one = (y : Y) → Contains ys y → Says y one
