use Rattle.std.proofs.Common.{◌-◌}
use Rattle.bep_peer.specs.network.Network.{cluster_of}
use Rattle.bep_rounds.proofs.Rounds.{StillFetches}
use Rattle.bep_rounds.proofs.fetching.fetch_all.Given as goal

-- the file is whole, or comes within the rounds that are left
abbrev pub invariant-loop-block : goal.invariant-loop-block
invariant-loop-block g l =
    StillFetches l.wanted.device l.wanted.owner l.wanted.folder l.wanted.name l.most (l.most - l._block) (cluster_of l.fn.cluster) (cluster_of l.cluster)
