use Rattle.std.proofs.Common.{ap}
use Rattle.bep_machine.specs.declared.moved.Moved.TheVariants.{Changed}
use Rattle.bep_machine.specs.declared.step.Step.TheVariants.{Connect}
use Rattle.bep_machine.specs.Steps.{ConnectRow}
use Rattle.bep_links.specs.Link.{LinkBetween}
use Rattle.bep_log.specs.History.{History}
use Rattle.bep_log.proofs.LinkFacts.{connect_touches, row_replayed}
use Rattle.bep_log.proofs.logged_link.LoggedLink.connect.Goals as goal

pub invariant_of-self-2 : goal.invariant_of-self-2
invariant_of-self-2 c =
    row_replayed Connect ConnectRow connect_touches c.actions_are_told.ensures.connect
    c.self.inside.base c.self.inside.link c.connect.new.self c.self.inside.history.log c.open.new.self.log c.tell.new.self.log c.args.ticket c.ends-lower.result c.event_in_folder-event.result Changed
    c.self.invariant (ap (λ (h : History). h.log) c.open.ensures.same) c.tell.ensures.log c.event_in_folder-event.ensures c.ends-lower.ensures.value
    (ap (λ (b : LinkBetween). b.ends) c.in_ok-connect.ensures.ok) c.in_ok-connect.ensures.row
