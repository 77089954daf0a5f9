use Rattle.std.proofs.Math.Dec.{leb}
use Rattle.std.proofs.lemmas.Bool.{leb-true, le-leb}
use Rattle.bep_peer.specs.network.Network.{cluster_of}
use Rattle.bep_rounds.proofs.Seen.{heard_if}
use Rattle.bep_rounds.proofs.seeing.has_heard.Goals as goal

pub returns-in-Some : goal.returns-in-Some
returns-in-Some g c =
    heard_if (cluster_of c.args.cluster.now) c.args.wanted.now.device c.args.wanted.now.owner c.args.wanted.now.folder c.args.sequence c.heard_of.result c.in-Some.replica.now.tables (leb c.args.sequence c.heard_of.result) c.in-Some.ensures c.heard_of.ensures
    (leb-true c.args.sequence c.heard_of.result) (le-leb c.args.sequence c.heard_of.result)
