use Rattle.std.proofs.Common.{flat_map, take}
use Rattle.bep_tables.specs.Listed.{folder_listed}
use Rattle.bep_tables.specs.inner.Groups.{Took}
use Rattle.bep_tables.proofs.table.listing.add_folders.Given as goal

-- the entries of the folders so far are taken
abbrev pub invariant-loop-held : goal.invariant-loop-held
invariant-loop-held l = Took (flat_map folder_listed (take l.held-index l.folders)) l.initial.groups l.groups
