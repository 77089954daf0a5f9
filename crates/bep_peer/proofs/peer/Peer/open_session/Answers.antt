use Rattle.std.proofs.Common.{ap, ◌∙◌}
use Rattle.std.specs.FinMap as map
use Rattle.bep_peer.proofs.SessionFacts.{one_more_shared}
use Rattle.bep_peer.proofs.peer.Peer.open_session.Goals as goal

pub invariant_of-self-2 : goal.invariant_of-self-2
invariant_of-self-2 g c = record {
  own = c.self.invariant.own;
  named = one_more_shared c.self.inside.folders c.self.inside.sessions c.give_and_send.new.sessions c.args.other c.epoch.result c.self.invariant.named (c.in_ok-told.ensures.ok.0 ∙ ap (map.insert c.self.inside.sessions c.args.other) c.in_ok-session.ensures);
  linked_to = c.self.invariant.linked_to;
}
