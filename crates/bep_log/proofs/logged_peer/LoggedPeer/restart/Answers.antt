use Rattle.std.proofs.Common.{ap}
use Rattle.bep_log.specs.History.{History}
use Rattle.bep_log.proofs.LinkFacts.{device_restarted}
use Rattle.bep_log.proofs.logged_peer.LoggedPeer.restart.Goals as goal

pub invariant_of-self-2 : goal.invariant_of-self-2
invariant_of-self-2 g c =
    device_restarted c.actions_are_told.ensures.restart
    c.self.inside.base c.self.inside.peer c.restart.new.self c.self.inside.history.log c.open.new.self.log c.tell.new.self.log c.args.ticket c.number.result c.event_in_folder-event.result
    c.self.invariant (ap (λ (h : History). h.log) c.open.ensures.same) c.tell.ensures.log c.event_in_folder-event.ensures c.number.ensures c.restart.ensures.rest c.restart.ensures.step
