use Rattle.bep_peer.proofs.WithinFacts.{stepped_within}
use Rattle.bep_peer.proofs.peer.Peer.scan.Goals as goal

pub returns-clause-step : goal.returns-clause-step
returns-clause-step g c = stepped_within c.call.ensures.answers
