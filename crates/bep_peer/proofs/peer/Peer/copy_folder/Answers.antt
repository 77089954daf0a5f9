use Rattle.bep_peer.proofs.CopyFacts.{copied_at, copying_leaves}
use Rattle.bep_peer.proofs.peer.Peer.copy_folder.Goals as goal

pub returns-in_err-copy-clause-same : goal.returns-in_err-copy-clause-same
returns-in_err-copy-clause-same g c = copying_leaves c.call.ensures.answers

pub returns-in_err-copy-2-clause-same : goal.returns-in_err-copy-2-clause-same
returns-in_err-copy-2-clause-same g c = copying_leaves c.call.ensures.answers

pub returns-in_err-insert-clause-same : goal.returns-in_err-insert-clause-same
returns-in_err-insert-clause-same g c = copying_leaves c.call.ensures.answers

pub returns-clause-read : goal.returns-clause-read
returns-clause-read g c = (copied_at c.in_ok-copy.ensures.answers).1

pub returns-clause-same : goal.returns-clause-same
returns-clause-same g c = copying_leaves c.call.ensures.answers
