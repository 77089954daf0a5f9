use Rattle.std.proofs.Common.{length}
use Rattle.std.specs.FinMap.{entries}
use Rattle.std.specs.List.{AllByRecursion}
use Rattle.bep_peer.specs.Sound.{IsSoundHeld}
use Rattle.bep_peer.proofs.sound.folders_are_sound.Given as goal

-- where those that are left are sound, all are
abbrev pub invariant-loop-shared : goal.invariant-loop-shared
invariant-loop-shared g l = AllByRecursion IsSoundHeld l.shared-iterator → AllByRecursion IsSoundHeld (entries l.folders)

abbrev pub decreases-loop-shared : goal.decreases-loop-shared
decreases-loop-shared g l = length l.shared-iterator
