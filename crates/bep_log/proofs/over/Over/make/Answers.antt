use Rattle.std.proofs.Common.{◌≡◌, Result, sym, subst}
use Rattle.bep_machine.specs.declared.moved.Moved.{Moved}
use Rattle.bep_peer.specs.declared.error.PeerError.{PeerError}
use Rattle.bep_peer.specs.Lent.{Lent, StepOver}
use Rattle.bep_peer.specs.PeerError.{Gives}
use Rattle.bep_log.specs.declared.over.Over.{Over}
use Rattle.bep_log.specs.Over.{doing_of}
use Rattle.bep_log.proofs.over.Over.make.Goals as goal

-- the device made what it was asked for
as_asked : (was after : Lent) (result : Result Moved PeerError) {asked what : Over} → asked ≡ what →
    Gives (StepOver ((doing_of what).row after.member.trace.failed) (doing_of what).shares was) after result → Gives (StepOver ((doing_of asked).row after.member.trace.failed) (doing_of asked).shares was) after result
as_asked was after result is made = subst (λ (step : Over). Gives (StepOver ((doing_of step).row after.member.trace.failed) (doing_of step).shares was) after result) (sym is) made

pub returns-in-Begin-clause-step : goal.returns-in-Begin-clause-step
returns-in-Begin-clause-step g c =
    as_asked (record { member = c.args.peer.now; link = c.args.link.now }) (record { member = c.begin.new.self; link = c.begin.new.link }) c.begin.result c.in-Begin.is c.begin.ensures.step

pub returns-in-Deliver-clause-step : goal.returns-in-Deliver-clause-step
returns-in-Deliver-clause-step g c =
    as_asked (record { member = c.args.peer.now; link = c.args.link.now }) (record { member = c.deliver.new.self; link = c.deliver.new.link }) c.deliver.result c.in-Deliver.is c.deliver.ensures.step

pub returns-in-Announce-clause-step : goal.returns-in-Announce-clause-step
returns-in-Announce-clause-step g c =
    as_asked (record { member = c.args.peer.now; link = c.args.link.now }) (record { member = c.announce.new.self; link = c.announce.new.link }) c.announce.result c.in-Announce.is c.announce.ensures.step

pub returns-in-Ask-clause-step : goal.returns-in-Ask-clause-step
returns-in-Ask-clause-step g c =
    as_asked (record { member = c.args.peer.now; link = c.args.link.now }) (record { member = c.ask.new.self; link = c.ask.new.link }) c.ask.result c.in-Ask.is c.ask.ensures.step
