use Rattle.std.proofs.Common.{◌≡◌, ℕ, Option, Result, sym, ap, subst}
use Rattle.bep_machine.specs.declared.moved.Moved.{Moved}
use Rattle.bep_peer.specs.declared.error.PeerError.{PeerError}
use Rattle.bep_peer.specs.declared.trace.Trace.{Trace}
use Rattle.bep_peer.specs.Lent.{Lent, StepOver}
use Rattle.bep_peer.specs.Member.{Member}
use Rattle.bep_peer.specs.PeerError.{Gives}
use Rattle.bep_peer.specs.Unhidden.{IsUnrefused}
use Rattle.bep_core.specs.inner.Over.{TellsOver, row_of, shares_of}
use Rattle.bep_core.specs.declared.session_steps.Over.{Over}
use Rattle.bep_core.proofs.session_steps.act.Goals as goal

-- the device made what it was asked for
as_asked : (was after : Lent) (result : Result Moved PeerError) {asked what : Over} → asked ≡ what →
    Gives (StepOver (row_of what after.member.trace.failed) (shares_of what) was) after result → Gives (StepOver (row_of asked after.member.trace.failed) (shares_of asked) was) after result
as_asked was after result is made = subst (λ (step : Over). Gives (StepOver (row_of step after.member.trace.failed) (shares_of step) was) after result) (sym is) made

pub returns-in-Begin-clause-step : goal.returns-in-Begin-clause-step
returns-in-Begin-clause-step g c =
    as_asked (record { member = c.args.peer.now; link = c.args.link.now }) (record { member = c.begin.new.self; link = c.begin.new.link }) c.begin.result c.in-Begin.is c.begin.ensures.step

pub returns-in-Deliver-clause-step : goal.returns-in-Deliver-clause-step
returns-in-Deliver-clause-step g c =
    as_asked (record { member = c.args.peer.now; link = c.args.link.now }) (record { member = c.deliver.new.self; link = c.deliver.new.link }) c.deliver.result c.in-Deliver.is c.deliver.ensures.step

pub returns-in-Announce-clause-step : goal.returns-in-Announce-clause-step
returns-in-Announce-clause-step g c =
    as_asked (record { member = c.args.peer.now; link = c.args.link.now }) (record { member = c.announce.new.self; link = c.announce.new.link }) c.announce.result c.in-Announce.is c.announce.ensures.step

pub returns-in-Ask-clause-step : goal.returns-in-Ask-clause-step
returns-in-Ask-clause-step g c =
    as_asked (record { member = c.args.peer.now; link = c.args.link.now }) (record { member = c.ask.new.self; link = c.ask.new.link }) c.ask.result c.in-Ask.is c.ask.ensures.step

-- and told of it
told_as : (trace : Trace) (result : Result Moved PeerError) {asked what : Over} → asked ≡ what → TellsOver what trace result → TellsOver asked trace result
told_as trace result is tells = subst (λ (step : Over). TellsOver step trace result) (sym is) tells

pub returns-in-Begin-clause-fault : goal.returns-in-Begin-clause-fault
returns-in-Begin-clause-fault g c = told_as c.begin.new.self.trace c.begin.result c.in-Begin.is (ap (λ (m : Member). m.trace.failed) c.begin.ensures.only)

pub returns-in-Deliver-clause-fault : goal.returns-in-Deliver-clause-fault
returns-in-Deliver-clause-fault g c = told_as c.deliver.new.self.trace c.deliver.result c.in-Deliver.is c.deliver.ensures.fault

pub returns-in-Announce-clause-fault : goal.returns-in-Announce-clause-fault
returns-in-Announce-clause-fault g c = told_as c.announce.new.self.trace c.announce.result c.in-Announce.is (ap (λ (m : Member). m.trace.failed) c.announce.ensures.only)

pub returns-in-Ask-clause-fault : goal.returns-in-Ask-clause-fault
returns-in-Ask-clause-fault g c = told_as c.ask.new.self.trace c.ask.result c.in-Ask.is (ap (λ (m : Member). m.trace.failed) c.ask.ensures.only)

-- and where it wanted memory, nothing refused it
unrefused_as : (was : Lent) (failed : Option ℕ) {asked what : Over} → asked ≡ what → IsUnrefused (row_of what failed) (shares_of what) was → IsUnrefused (row_of asked failed) (shares_of asked) was
unrefused_as was failed is un = subst (λ (step : Over). IsUnrefused (row_of step failed) (shares_of step) was) (sym is) un

pub returns-in-Begin-clause-unhidden : goal.returns-in-Begin-clause-unhidden
returns-in-Begin-clause-unhidden g c = λ wants. unrefused_as (record { member = c.args.peer.now; link = c.args.link.now }) c.begin.new.self.trace.failed c.in-Begin.is (c.begin.ensures.unhidden wants)

pub returns-in-Deliver-clause-unhidden : goal.returns-in-Deliver-clause-unhidden
returns-in-Deliver-clause-unhidden g c = λ wants. unrefused_as (record { member = c.args.peer.now; link = c.args.link.now }) c.deliver.new.self.trace.failed c.in-Deliver.is (c.deliver.ensures.unhidden wants)

pub returns-in-Announce-clause-unhidden : goal.returns-in-Announce-clause-unhidden
returns-in-Announce-clause-unhidden g c = λ wants. unrefused_as (record { member = c.args.peer.now; link = c.args.link.now }) c.announce.new.self.trace.failed c.in-Announce.is (c.announce.ensures.unhidden wants)

pub returns-in-Ask-clause-unhidden : goal.returns-in-Ask-clause-unhidden
returns-in-Ask-clause-unhidden g c = λ wants. unrefused_as (record { member = c.args.peer.now; link = c.args.link.now }) c.ask.new.self.trace.failed c.in-Ask.is (c.ask.ensures.unhidden wants)
