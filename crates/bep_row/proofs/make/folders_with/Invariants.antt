use Rattle.std.proofs.Common.{◌≡◌, map, take}
use Rattle.bep_row.specs.Row.{folder_with}
use Rattle.bep_row.proofs.make.folders_with.Given as goal

abbrev pub invariant-loop-shared : goal.invariant-loop-shared
invariant-loop-shared l = l.made.items ≡ map (folder_with l.row) (take l.shared-index l.folders)
