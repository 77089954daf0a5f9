use Rattle.std.proofs.Common.{◌≡◌, drop, fold, map}
use Rattle.std.specs.FinMap.{empty}
use Rattle.bep_cut.specs.Cut.{seen, with_folders}
use Rattle.bep_cut.proofs.names.folder_names.Given as goal

-- the names so far with those of the devices that are left are all of them
abbrev pub invariant-loop-peer : goal.invariant-loop-peer
invariant-loop-peer g l = fold with_folders l.names (map seen (drop l.peer-index l.peers)) ≡ fold with_folders empty (map seen l.peers)
