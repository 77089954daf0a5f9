use Rattle.std.proofs.Common.{refl, subst}
use Rattle.std.specs.Option.{option_copied}
use Rattle.bep_fit.specs.declared.object.Object.TheVariants.{Link}
use Rattle.bep_log.specs.LoggedLink.{LinkLogs, LoggedBetween}
use Rattle.bep_machine.specs.Steps.{ConnectRow}
use Rattle.bep_machine.specs.declared.step.Step.TheVariants as steps
use Rattle.bep_run.specs.inner.Tickets.{IsNew}
use Rattle.bep_run.proofs.Grown.{link_grows, link_kept, link_may_tell}
use Rattle.bep_run.proofs.Lent.{lent_behind}
use Rattle.bep_run.proofs.StayQuiet.{quiet_link}
use Rattle.bep_run.proofs.Tickets.{in_time_on_link, new_ticket}
use Rattle.bep_run.proofs.kept_link.KeptLink.connect.Goals as goal

pub tell-requires-clause-may : goal.tell-requires-clause-may
tell-requires-clause-may g c =
    let old = c.self.inside.logged in
    let step = steps.Connect old.now.ends.0 old.now.ends.1 in
    let ticket = c.draw-ticket.result in
    let logs = c.connect-answer.ensures.logs in
    let grows = link_grows step ConnectRow ticket old c.connect-answer.new.self c.connect-answer.result logs in
    link_may_tell g.O.Origin.start g.O.Tabled.table c.self.inside.place old c.connect-answer.new.self c.self.inside.seat c.draw-ticket.new.self c.self.invariant step ticket grows refl c.draw-ticket.ensures.seat (option_copied c.get.result) (lent_behind old.log c.connect-answer.new.self.log c.log-before.result.now c.log.result.now c.get.result c.log-before.ensures.value c.log.ensures.value c.get.ensures.lookup)

pub invariant_of-self : goal.invariant_of-self
invariant_of-self g c =
    let old = c.self.inside.logged in
    let step = steps.Connect old.now.ends.0 old.now.ends.1 in
    let ticket = c.draw-ticket.result in
    let logs = c.connect-answer.ensures.logs in
    let grows = link_grows step ConnectRow ticket old c.connect-answer.new.self c.connect-answer.result logs in
    link_kept g.O.Origin.start g.O.Tabled.table c.self.inside.place old c.connect-answer.new.self c.self.inside.seat c.draw-ticket.new.self c.self.invariant step ticket grows refl c.draw-ticket.ensures.seat (option_copied c.get.result) (lent_behind old.log c.connect-answer.new.self.log c.log-before.result.now c.log.result.now c.get.result c.log-before.ensures.value c.log.ensures.value c.get.ensures.lookup) c.tell.new.self c.tell.ensures
    (quiet_link g.O.Origin.start step ConnectRow ticket old c.connect-answer.new.self c.connect-answer.result logs refl c.self.invariant.quiet)

pub returns : goal.returns
returns g c =
    let table = g.O.Tabled.table in
    let inside = c.self.inside.logged in
    let ticket = c.draw-ticket.result in
    let answer = c.connect-answer in
    let is = new_ticket table (Link inside.now.ends.0 inside.now.ends.1) inside.round inside.log inside.last ticket c.self.inside.seat c.self.invariant.seated c.self.invariant.last c.draw-ticket.ensures.above in
    record {
      logs = (
        ticket,
        subst (λ (old : LoggedBetween). IsNew table old.last ticket) c.self.view_is is,
        subst (λ (old : LoggedBetween). LinkLogs (steps.Connect old.now.ends.0 old.now.ends.1) ConnectRow ticket old answer.new.self answer.result) c.self.view_is answer.ensures.logs,
      );
      only = in_time_on_link (steps.Connect inside.now.ends.0 inside.now.ends.1) ConnectRow table ticket inside answer.new.self answer.result is answer.ensures.logs;
    }
