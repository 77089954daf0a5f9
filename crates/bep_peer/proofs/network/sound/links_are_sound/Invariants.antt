use Rattle.std.proofs.Common.{drop}
use Rattle.std.specs.List.{AllByRecursion}
use Rattle.bep_peer.specs.network.Agreed.{IsSoundBetween}
use Rattle.bep_peer.proofs.network.sound.links_are_sound.Given as goal

-- where those that are left are sound, all are
abbrev pub invariant-loop-link : goal.invariant-loop-link
invariant-loop-link l = AllByRecursion IsSoundBetween (drop l.link-index l.links) → AllByRecursion IsSoundBetween l.links
