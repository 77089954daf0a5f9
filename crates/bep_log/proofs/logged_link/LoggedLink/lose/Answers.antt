use Rattle.std.proofs.Common.{ap}
use Rattle.bep_machine.specs.declared.moved.Moved.TheVariants.{Changed}
use Rattle.bep_machine.specs.declared.step.Step.TheVariants.{Lose}
use Rattle.bep_machine.specs.Steps.{LoseRow}
use Rattle.bep_links.specs.Link.{LinkBetween}
use Rattle.bep_log.specs.History.{History}
use Rattle.bep_log.proofs.LinkFacts.{lose_touches, row_replayed}
use Rattle.bep_log.proofs.logged_link.LoggedLink.lose.Goals as goal

pub invariant_of-self-2 : goal.invariant_of-self-2
invariant_of-self-2 c =
    row_replayed Lose LoseRow lose_touches c.actions_are_told.ensures.lose
    c.self.inside.base c.self.inside.link c.lose.new.self c.self.inside.history.log c.open.new.self.log c.tell.new.self.log c.args.ticket c.ends-lower.result c.event_in_folder-event.result Changed
    c.self.invariant (ap (λ (h : History). h.log) c.open.ensures.same) c.tell.ensures.log c.event_in_folder-event.ensures c.ends-lower.ensures.value
    (ap (λ (b : LinkBetween). b.ends) c.in_ok-lose.ensures.ok) c.in_ok-lose.ensures.row
