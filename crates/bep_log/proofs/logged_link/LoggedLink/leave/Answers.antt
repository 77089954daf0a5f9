use Rattle.std.proofs.Common.{ap, rules}
use Rattle.bep_log.specs.History.{History}
use Rattle.bep_log.proofs.LinkFacts.{link_left}
use Rattle.bep_log.proofs.logged_link.LoggedLink.leave.Goals as goal

pub invariant_of-self-2 : goal.invariant_of-self-2
invariant_of-self-2 c =
    link_left c.args.step c.args.device c.requires
    c.self.inside.base c.self.inside.link c.go_down.new.link c.self.inside.history.log c.open.new.self.log c.tell.new.self.log c.args.ticket c.event_in_folder-event.result
    c.self.invariant (ap (λ (h : History). h.log) c.open.ensures.same) c.tell.ensures.log c.event_in_folder-event.ensures (c.is_end.ensures.0 (search rules)) c.go_down.ensures
