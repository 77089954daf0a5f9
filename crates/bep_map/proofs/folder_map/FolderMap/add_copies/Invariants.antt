use Rattle.std.proofs.Common.{◌≡◌, List, ◌++◌, length, ℕ}
use Rattle.std.specs.FinMap.{from_entries}
use Rattle.bep_map.proofs.folder_map.FolderMap.add_copies.Given as goal

-- the map has the entries that were passed, and those before them are left
abbrev pub invariant-loop-folder : goal.invariant-loop-folder
invariant-loop-folder g l =
    (passed : List (List ℕ × g.row.V.Denot)) × (l.rest ++ passed ≡ l.initial.rest) × (l.self ≡ from_entries passed)

abbrev pub decreases-loop-folder : goal.decreases-loop-folder
decreases-loop-folder g l = length l.rest
