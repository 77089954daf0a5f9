use Rattle.std.proofs.Common.{◌≡◌, ◌++◌, map}
use Rattle.std.specs.FinMap.{keys}
use Rattle.bep_run.proofs.shared.folders_of.Given as goal

-- the names so far with those that are left are all of them
abbrev pub invariant-loop-folder : goal.invariant-loop-folder
invariant-loop-folder g l = l.names.items ++ map (λ e. e.0) l.folder-iterator ≡ keys l.peer.folders
