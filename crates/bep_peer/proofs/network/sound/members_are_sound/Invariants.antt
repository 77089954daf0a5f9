use Rattle.std.proofs.Common.{drop}
use Rattle.std.specs.List.{AllByRecursion}
use Rattle.bep_peer.specs.Sound.{IsSoundMember}
use Rattle.bep_peer.proofs.network.sound.members_are_sound.Given as goal

-- where those that are left are sound, all are
abbrev pub invariant-loop-peer : goal.invariant-loop-peer
invariant-loop-peer g l = AllByRecursion IsSoundMember (drop l.peer-index l.peers) → AllByRecursion IsSoundMember l.peers
