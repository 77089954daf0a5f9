use Rattle.bep_peer.proofs.Unrefused.{pull_unrefused}
use Rattle.bep_peer.proofs.WithinFacts.{stepped_within}
use Rattle.bep_peer.proofs.peer.Peer.pull.Goals as goal

pub returns-clause-step : goal.returns-clause-step
returns-clause-step g c = stepped_within c.call.ensures.answers

pub returns-clause-unhidden : goal.returns-clause-unhidden
returns-clause-unhidden g c = λ wants. pull_unrefused c.args.folder.now c.args.name c.args.self.now c.call.new.self c.call.result c.call.ensures.answers wants
