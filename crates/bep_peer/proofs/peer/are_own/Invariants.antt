use Rattle.std.proofs.Common.{◌↔◌, length}
use Rattle.std.specs.List.{AllByRecursion}
use Rattle.bep_peer.specs.Member.{AreOwn}
use Rattle.bep_peer.proofs.OwnFacts.{IsOwnAt}
use Rattle.bep_peer.proofs.peer.are_own.Given as goal

-- those that are left are exactly where all are
abbrev pub invariant-loop-folder : goal.invariant-loop-folder
invariant-loop-folder g l = AllByRecursion (IsOwnAt l.number) l.folder-iterator ↔ AreOwn l.number l.folders

abbrev pub decreases-loop-folder : goal.decreases-loop-folder
decreases-loop-folder g l = length l.folder-iterator
