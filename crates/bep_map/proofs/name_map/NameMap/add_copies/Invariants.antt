use Rattle.std.proofs.Common.{◌≡◌, List, ◌++◌, length, ℕ}
use Rattle.std.specs.FinMap.{from_entries}
use Rattle.bep_map.proofs.name_map.NameMap.add_copies.Given as goal

-- the map has the entries that were passed, and those before them are left
abbrev pub invariant-loop-name : goal.invariant-loop-name
invariant-loop-name g l =
    (passed : List (List ℕ × g.row.V.Denot)) × (l.rest ++ passed ≡ l.initial.rest) × (l.self ≡ from_entries passed)

abbrev pub decreases-loop-name : goal.decreases-loop-name
decreases-loop-name g l = length l.rest
