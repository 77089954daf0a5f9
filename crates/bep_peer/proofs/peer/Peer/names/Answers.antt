use Rattle.bep_peer.specs.Contents.{HasNames}
use Rattle.bep_peer.proofs.ContentsFacts.{reads_within, reads_same}
use Rattle.bep_peer.proofs.peer.Peer.names.Goals as goal

pub returns-clause-read : goal.returns-clause-read
returns-clause-read g c = reads_within HasNames c.call.ensures.answers

pub returns-clause-same : goal.returns-clause-same
returns-clause-same g c = reads_same HasNames c.call.ensures.answers
