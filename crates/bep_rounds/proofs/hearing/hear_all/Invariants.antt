use Rattle.std.proofs.Common.{◌-◌}
use Rattle.bep_peer.specs.network.Network.{cluster_of}
use Rattle.bep_rounds.proofs.Rounds.{StillHears}
use Rattle.bep_rounds.proofs.hearing.hear_all.Given as goal

-- the record is there, or comes within the rounds that are left
abbrev pub invariant-loop-round : goal.invariant-loop-round
invariant-loop-round g l =
    StillHears l.wanted.device l.wanted.owner l.wanted.folder l.wanted.name l.sequence l.rounds (l.rounds - l._round) (cluster_of l.fn.cluster) (cluster_of l.cluster)
