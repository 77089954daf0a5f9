use Rattle.bep_peer.proofs.ResetFacts.{remains_as_it_was}
use Rattle.bep_peer.proofs.peer.Peer.reset.Goals as goal

pub returns-then-has_id_from-clause-rest : goal.returns-then-has_id_from-clause-rest
returns-then-has_id_from-clause-rest g c = remains_as_it_was c.args.self.now c.tell_nothing.new.self c.tell_nothing.ensures
