use Rattle.bep_peer.proofs.ScanFacts.{looks_within, looks_same, looks_unfailed}
use Rattle.bep_peer.proofs.peer.Peer.look.Goals as goal

pub returns-clause-found : goal.returns-clause-found
returns-clause-found g c = looks_within c.call.ensures.answers

pub returns-clause-same : goal.returns-clause-same
returns-clause-same g c = looks_same c.call.ensures.answers

pub returns-clause-unfailed : goal.returns-clause-unfailed
returns-clause-unfailed g c = looks_unfailed c.call.ensures.answers
