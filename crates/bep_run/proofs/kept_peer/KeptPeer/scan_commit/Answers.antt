use Rattle.std.proofs.Common.{refl, subst, None}
use Rattle.std.specs.Option.{option_copied}
use Rattle.bep_fit.specs.declared.object.Object.TheVariants.{Device}
use Rattle.bep_log.specs.Acts.{LogsIn}
use Rattle.bep_log.specs.LoggedPeer.{LoggedMember}
use Rattle.bep_peer.specs.Within.{CommitsWithin}
use Rattle.bep_machine.specs.declared.step.Step.TheVariants as steps
use Rattle.bep_run.specs.inner.Tickets.{IsNew}
use Rattle.bep_run.proofs.Grown.{device_kept, device_may_tell, grows_in}
use Rattle.bep_run.proofs.Lent.{lent_behind}
use Rattle.bep_run.proofs.StayQuiet.{quiet_in}
use Rattle.bep_run.proofs.Tickets.{in_time, new_ticket}
use Rattle.bep_run.proofs.kept_peer.KeptPeer.scan_commit.Goals as goal

pub tell-requires-clause-may : goal.tell-requires-clause-may
tell-requires-clause-may g c =
    let old = c.self.inside.logged in
    let folder = c.args.folder.now in
    let step = (steps.Scan old.now.number folder c.args.scan.name) in
    let ticket = c.draw-ticket.result in
    let logs = c.scan_commit-answer.ensures.logs in
    let grows = grows_in None folder (CommitsWithin folder c.args.scan) step ticket old c.scan_commit-answer.new.self c.scan_commit-answer.result logs in
    device_may_tell g.O.Origin.start g.O.Tabled.table c.self.inside.place old c.scan_commit-answer.new.self c.self.inside.seat c.draw-ticket.new.self c.self.invariant step ticket grows refl c.draw-ticket.ensures.seat (option_copied c.get.result) (lent_behind old.log c.scan_commit-answer.new.self.log c.log-before.result.now c.log.result.now c.get.result c.log-before.ensures.value c.log.ensures.value c.get.ensures.lookup)

pub invariant_of-self : goal.invariant_of-self
invariant_of-self g c =
    let old = c.self.inside.logged in
    let folder = c.args.folder.now in
    let step = (steps.Scan old.now.number folder c.args.scan.name) in
    let ticket = c.draw-ticket.result in
    let logs = c.scan_commit-answer.ensures.logs in
    let grows = grows_in None folder (CommitsWithin folder c.args.scan) step ticket old c.scan_commit-answer.new.self c.scan_commit-answer.result logs in
    device_kept g.O.Origin.start g.O.Tabled.table c.self.inside.place old c.scan_commit-answer.new.self c.self.inside.seat c.draw-ticket.new.self c.self.invariant step ticket grows refl c.draw-ticket.ensures.seat (option_copied c.get.result) (lent_behind old.log c.scan_commit-answer.new.self.log c.log-before.result.now c.log.result.now c.get.result c.log-before.ensures.value c.log.ensures.value c.get.ensures.lookup) c.tell.new.self c.tell.ensures
    (quiet_in g.O.Origin.start None folder (CommitsWithin folder c.args.scan) step ticket old c.scan_commit-answer.new.self c.scan_commit-answer.result logs refl c.self.invariant.quiet)

pub returns : goal.returns
returns g c =
    let table = g.O.Tabled.table in
    let inside = c.self.inside.logged in
    let folder = c.args.folder.now in
    let ticket = c.draw-ticket.result in
    let answer = c.scan_commit-answer in
    let is = new_ticket table (Device inside.now.number) inside.round inside.log inside.last ticket c.self.inside.seat c.self.invariant.seated c.self.invariant.last c.draw-ticket.ensures.above in
    record {
      logs = (
        ticket,
        subst (λ (old : LoggedMember). IsNew table old.last ticket) c.self.view_is is,
        subst (λ (old : LoggedMember). LogsIn None folder (CommitsWithin folder c.args.scan) (steps.Scan old.now.number folder c.args.scan.name) ticket old answer.new.self answer.result) c.self.view_is answer.ensures.logs,
      );
      only = in_time None folder (CommitsWithin folder c.args.scan) (steps.Scan inside.now.number folder c.args.scan.name) table ticket inside answer.new.self answer.result is answer.ensures.logs;
    }
