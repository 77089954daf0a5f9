use Rattle.std.proofs.Common.{◌≤◌, take}
use Rattle.std.specs.Option.{option_copied}
use Rattle.bep_converge_check.specs.SoMany.{AreSoMany}
use Rattle.bep_converge_check.specs.inner.Behind.{IsBehindAmong, IsUpAmong}
use Rattle.bep_converge_check.proofs.behind.count_behind.Given as goal

-- so many of the devices so far
abbrev pub invariant-loop-share : goal.invariant-loop-share
invariant-loop-share l = (l.count ≤ l.share-index) × AreSoMany (IsBehindAmong (option_copied l.winner) l.name (take l.share-index l.shares)) (IsUpAmong (option_copied l.winner) l.name (take l.share-index l.shares)) l.count
