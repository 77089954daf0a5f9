use Rattle.bep_peer.proofs.ScanFacts.{commits_within}
use Rattle.bep_peer.proofs.peer.Peer.scan_commit.Goals as goal

pub returns-clause-commits : goal.returns-clause-commits
returns-clause-commits g c = commits_within c.call.ensures.answers
