-- The walk for the top of a name's records (this project's profile).
use Rattle.std.specs.Prelude.{◌≡◌, ◌⊎◌, ℕ, List, Option, Some, None}
use Rattle.bep_record.specs.declared.entry.Entry.{Entry}
use Rattle.bep_record.specs.Vector.{IsAtMost}
use Rattle.bep_tables.specs.Listed.{Listed}
use Rattle.bep_converge_check.specs.inner.Records.{valid_held, IsOwnIn, IsAbove}

-- what is found is an own record of these, and each of them that is above all of the group is at most it; nothing is found where
-- there is none
abbrev pub IsHighestOwn : List Listed → List Listed → Option Entry → Type 0
IsHighestOwn group done None = (entry : Entry) → ¬ IsOwnIn done entry
IsHighestOwn group done (Some highest) = IsOwnIn group highest × ((entry : Entry) → IsOwnIn done entry → IsAbove group entry.version → IsAtMost entry.version highest.version)

-- the second where it is above the first; the first otherwise
abbrev pub IsHigher : Option Entry → Option Entry → Option Entry → Type 0
IsHigher first None higher = higher ≡ first
IsHigher None (Some second) higher = higher ≡ Some second
IsHigher (Some first) (Some second) higher =
    (IsAtMost first.version second.version × (higher ≡ Some second)) ⊎ ((¬ IsAtMost first.version second.version) × (higher ≡ Some first))

-- a valid record of the entry has a version at most this one
abbrev pub IsBelowIfValid : List (ℕ × ℕ) → Listed → Type 0
IsBelowIfValid version one = (entry : Entry) → valid_held one.holding ≡ Some entry → IsAtMost entry.version version
