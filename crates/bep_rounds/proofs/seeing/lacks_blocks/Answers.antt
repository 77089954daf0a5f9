use Rattle.bep_peer.specs.network.Network.{cluster_of}
use Rattle.bep_rounds.proofs.Seen.{lacks_if}
use Rattle.bep_rounds.proofs.seeing.lacks_blocks.Goals as goal

pub returns-in-Some-pull : goal.returns-in-Some-pull
returns-in-Some-pull g c =
    lacks_if (cluster_of c.args.cluster.now) c.args.wanted.now.device c.args.wanted.now.folder c.args.wanted.now.name c.in-Some.replica.now.tables c.in-Some-pull.pull.now c.is_unfinished.result c.in-Some.ensures c.in-Some-pull.ensures c.is_unfinished.ensures
