use Rattle.std.proofs.Common.{◌≡◌, List, ◌++◌, length, ℕ, map}
use Rattle.std.specs.List.{AllByRecursion}
use Rattle.std.specs.FinMap.{from_entries}
use Rattle.bep_machine.specs.Replica.{Pull}
use Rattle.bep_folder.specs.Pull.{IsPull}
use Rattle.bep_cut.specs.Share.{target_cut}
use Rattle.bep_cut.proofs.share.targets_cut.Given as goal

-- the map has the targets of the pulls that were passed, and those before them are left
abbrev pub invariant-loop-name : goal.invariant-loop-name
invariant-loop-name l =
    (passed : List (List ℕ × Pull)) × (l.rest ++ passed ≡ l.initial.rest) × (l.made ≡ from_entries (map target_cut passed))
    × AllByRecursion (λ (one : List ℕ × Pull). IsPull one.1) passed

abbrev pub decreases-loop-name : goal.decreases-loop-name
decreases-loop-name l = length l.rest
