use Rattle.std.proofs.Common.{Option, refl, sym, subst}
use Rattle.std.specs.Option.{option_copied}
use Rattle.bep_fit.specs.declared.object.Object.TheVariants.{Device, Link}
use Rattle.bep_history.specs.declared.view.View.{View}
use Rattle.bep_log.specs.LoggedLink.{LoggedBetween}
use Rattle.bep_log.specs.LoggedPeer.{LoggedMember}
use Rattle.bep_log.specs.Over.{delivers}
use Rattle.bep_run.specs.inner.Kept.{IsKeptLink}
use Rattle.bep_run.specs.inner.Tickets.{IsNew}
use Rattle.bep_run.proofs.GrownBoth.{both_grow, both_may_tell, device_kept_over, link_kept_over}
use Rattle.bep_run.proofs.Lent.{lent_behind}
use Rattle.bep_run.proofs.SameView.{logs_as}
use Rattle.bep_run.proofs.StayQuiet.{quiet_delivered}
use Rattle.bep_run.proofs.Tickets.{are_two, in_time_over, new_ticket}
use Rattle.bep_run.proofs.kept_peer.KeptPeer.deliver.Goals as goal

pub draw_both-ticket-requires-clause-two : goal.draw_both-ticket-requires-clause-two
draw_both-ticket-requires-clause-two g c =
    let old = c.self.inside.logged in
    let link = c.link.inside.logged in
    are_two g.O.Tabled.table (Device old.now.number) (Link link.now.ends.0 link.now.ends.1) old.round link.round old.log link.log c.self.inside.seat c.link.inside.seat c.self.invariant.seated c.link.invariant.seated

pub tell_both-requires-clause-may : goal.tell_both-requires-clause-may
tell_both-requires-clause-may g c =
    let old = c.self.inside.logged in
    let link = c.link.inside.logged in
    let new = c.deliver-answer.new.self in
    let after = c.deliver-answer.new.link in
    let ticket = c.draw_both-ticket.result in
    let its_kept =
    subst (λ (its : Option View). IsKeptLink g.O.Origin.start g.O.Tabled.table c.link.inside.place link its) (sym c.draw_both-ticket.ensures.other) c.link.invariant in
    let logs = c.deliver-answer.ensures.logs in
    let grow = both_grow delivers ticket old new link after c.deliver-answer.result logs (λ device other. refl) in
    both_may_tell g.O.Origin.start g.O.Tabled.table c.self.inside.place c.link.inside.place old new link after c.self.inside.seat c.draw_both-ticket.new.self c.draw_both-ticket.new.other c.self.invariant its_kept ticket grow c.log_replays.ensures c.log_replays-2.ensures c.log_replays-3.ensures c.draw_both-ticket.ensures.seat (option_copied c.get.result) (lent_behind old.log c.deliver-answer.new.self.log c.log-before.result.now c.log.result.now c.get.result c.log-before.ensures.value c.log.ensures.value c.get.ensures.lookup)

pub invariant_of-self : goal.invariant_of-self
invariant_of-self g c =
    let old = c.self.inside.logged in
    let link = c.link.inside.logged in
    let new = c.deliver-answer.new.self in
    let after = c.deliver-answer.new.link in
    let ticket = c.draw_both-ticket.result in
    let its_kept =
    subst (λ (its : Option View). IsKeptLink g.O.Origin.start g.O.Tabled.table c.link.inside.place link its) (sym c.draw_both-ticket.ensures.other) c.link.invariant in
    let logs = c.deliver-answer.ensures.logs in
    let grow = both_grow delivers ticket old new link after c.deliver-answer.result logs (λ device other. refl) in
    device_kept_over g.O.Origin.start g.O.Tabled.table c.self.inside.place c.link.inside.place old new link after c.self.inside.seat c.draw_both-ticket.new.self c.draw_both-ticket.new.other c.self.invariant its_kept ticket grow c.log_replays.ensures c.log_replays-2.ensures c.log_replays-3.ensures c.draw_both-ticket.ensures.seat (option_copied c.get.result) (lent_behind old.log c.deliver-answer.new.self.log c.log-before.result.now c.log.result.now c.get.result c.log-before.ensures.value c.log.ensures.value c.get.ensures.lookup) c.tell_both.new.self c.tell_both.ensures.seat
    ((quiet_delivered g.O.Origin.start ticket old new link after c.deliver-answer.result logs).0 c.self.invariant.quiet)

pub invariant_of-link : goal.invariant_of-link
invariant_of-link g c =
    let old = c.self.inside.logged in
    let link = c.link.inside.logged in
    let new = c.deliver-answer.new.self in
    let after = c.deliver-answer.new.link in
    let ticket = c.draw_both-ticket.result in
    let its_kept =
    subst (λ (its : Option View). IsKeptLink g.O.Origin.start g.O.Tabled.table c.link.inside.place link its) (sym c.draw_both-ticket.ensures.other) c.link.invariant in
    let logs = c.deliver-answer.ensures.logs in
    let grow = both_grow delivers ticket old new link after c.deliver-answer.result logs (λ device other. refl) in
    link_kept_over g.O.Origin.start g.O.Tabled.table c.self.inside.place c.link.inside.place old new link after c.self.inside.seat c.draw_both-ticket.new.self c.draw_both-ticket.new.other c.self.invariant its_kept ticket grow c.log_replays.ensures c.log_replays-2.ensures c.log_replays-3.ensures c.draw_both-ticket.ensures.seat (option_copied c.get.result) (lent_behind old.log c.deliver-answer.new.self.log c.log-before.result.now c.log.result.now c.get.result c.log-before.ensures.value c.log.ensures.value c.get.ensures.lookup) c.tell_both.new.other c.tell_both.ensures.other
    ((quiet_delivered g.O.Origin.start ticket old new link after c.deliver-answer.result logs).1 c.link.invariant.quiet)

pub returns : goal.returns
returns g c =
    let table = g.O.Tabled.table in
    let old = c.self.inside.logged in
    let link = c.link.inside.logged in
    let ticket = c.draw_both-ticket.result in
    let answer = c.deliver-answer in
    let above = c.draw_both-ticket.ensures.above in
    let is = new_ticket table (Device old.now.number) old.round old.log old.last ticket c.self.inside.seat c.self.invariant.seated c.self.invariant.last (above.0, above.1) in
    let its = new_ticket table (Link link.now.ends.0 link.now.ends.1) link.round link.log link.last ticket c.link.inside.seat c.link.invariant.seated c.link.invariant.last (above.0, above.2) in
    record {
      logs = (
        ticket,
        subst (λ (one : LoggedMember). IsNew table one.last ticket) c.self.view_is is,
        subst (λ (one : LoggedBetween). IsNew table one.last ticket) c.link.view_is its,
        logs_as delivers ticket old c.args.self.now answer.new.self link c.args.link.now answer.new.link answer.result c.self.view_is c.link.view_is answer.ensures.logs,
      );
      only = in_time_over delivers table ticket old answer.new.self link answer.new.link answer.result is its answer.ensures.logs;
    }
