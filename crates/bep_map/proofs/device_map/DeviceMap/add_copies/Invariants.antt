use Rattle.std.proofs.Common.{◌≡◌, List, ◌++◌, length, ℕ}
use Rattle.std.specs.FinMap.{from_entries}
use Rattle.bep_map.proofs.device_map.DeviceMap.add_copies.Given as goal

-- the map has the entries that were passed, and those before them are left
abbrev pub invariant-loop-device : goal.invariant-loop-device
invariant-loop-device g l =
    (passed : List (ℕ × g.row.V.Denot)) × (l.rest ++ passed ≡ l.initial.rest) × (l.self ≡ from_entries passed)

abbrev pub decreases-loop-device : goal.decreases-loop-device
decreases-loop-device g l = length l.rest
