use Rattle.bep_peer.proofs.WithinFacts.{stepped_within, copied_within, kept_within}
use Rattle.bep_peer.proofs.peer.Peer.finish.Goals as goal

pub returns-clause-step : goal.returns-clause-step
returns-clause-step g c = stepped_within c.call.ensures.answers

pub returns-clause-copied : goal.returns-clause-copied
returns-clause-copied g c = copied_within c.call.ensures.answers

pub returns-clause-kept : goal.returns-clause-kept
returns-clause-kept g c = kept_within c.call.ensures.answers
