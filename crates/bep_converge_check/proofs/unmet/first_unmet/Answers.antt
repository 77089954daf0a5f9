use Rattle.bep_converge_check.proofs.DeviceReasons.{reasons_start, reasons_go_on, reason_fails, reasons_end}
use Rattle.bep_converge_check.proofs.MetFacts.{all_are_met}
use Rattle.bep_converge_check.proofs.unmet.first_unmet.Goals as goal

pub returns-then-are_met : goal.returns-then-are_met
returns-then-are_met c = all_are_met c.args.top.now c.args.name.now c.args.shares.now (c.are_met.ensures.0 c.if-are_met.true)

pub loop-reason-init : goal.loop-reason-init
loop-reason-init c = reasons_start c.args.top.now c.args.name.now c.args.shares.now

pub loop-reason-preserved : goal.loop-reason-preserved
loop-reason-preserved c =
    reasons_go_on c.args.top.now c.args.name.now c.args.shares.now c.loop-reason.reason-index c.loop-reason-test.true c.loop-reason.invariant c.in_default.ensures

pub returns-in-Some : goal.returns-in-Some
returns-in-Some c =
    reason_fails c.args.top.now c.args.name.now c.args.shares.now c.loop-reason.reason-index c.loop-reason-test.true c.loop-reason.invariant c.in-Some.device c.in-Some.ensures

pub returns : goal.returns
returns c = reasons_end c.args.top.now c.args.name.now c.args.shares.now c.loop-reason.reason-index c.loop-reason-test.false c.loop-reason.invariant
