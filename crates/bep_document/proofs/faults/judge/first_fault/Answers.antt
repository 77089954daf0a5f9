use Rattle.std.proofs.Common.{sym, ◌∙◌}
use Rattle.bep_document.proofs.faults.JudgeFacts.{first_is_here, first_is_behind}
use Rattle.bep_document.proofs.faults.judge.first_fault.Goals as goal

pub returns-in-Some : goal.returns-in-Some
returns-in-Some g c =
    first_is_here (g.J.Judge.fault_at c.args.judge.now) c.args.items.now c.loop-i.i c.index-items-i.result c.in-Some.fault
    c.loop-i-test.true c.index-items-i.is c.loop-i.invariant (sym c.in_ok-fault.ensures ∙ c.in-Some.is)

pub loop-i-preserved : goal.loop-i-preserved
loop-i-preserved g c =
    first_is_behind (g.J.Judge.fault_at c.args.judge.now) c.args.items.now c.loop-i.i c.index-items-i.result
    c.loop-i-test.true c.index-items-i.is c.loop-i.invariant (sym c.in_ok-fault.ensures ∙ c.in-None.is)
