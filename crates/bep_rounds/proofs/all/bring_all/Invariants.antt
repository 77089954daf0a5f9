use Rattle.std.proofs.Common.{◌-◌}
use Rattle.bep_peer.specs.network.Network.{cluster_of}
use Rattle.bep_rounds.proofs.AllRounds.{StillBrings}
use Rattle.bep_rounds.proofs.all.bring_all.Given as goal

-- all that is behind is brought within the rounds that are left
abbrev pub invariant-loop-round : goal.invariant-loop-round
invariant-loop-round g l = StillBrings l.most (l.most - l._round) (cluster_of l.fn.cluster) (cluster_of l.cluster)
