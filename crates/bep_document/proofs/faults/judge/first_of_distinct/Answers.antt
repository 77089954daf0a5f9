use Rattle.std.proofs.Common.{false, sym, ◌∙◌}
use Rattle.bep_document.proofs.faults.JudgeFacts.{first_is_here, first_is_behind}
use Rattle.bep_document.proofs.faults.judge.first_of_distinct.Goals as goal

pub returns-in-Some : goal.returns-in-Some
returns-in-Some g c =
    first_is_here (λ _. g.J.JudgeKeyed.fault_at c.args.judge.now false) c.args.items.now c.loop-item.item-index c.item-item.result c.in-Some.fault
    c.loop-item-test.true c.item-item.is c.loop-item.invariant (sym c.in_ok-fault.ensures ∙ c.in-Some.is)

pub loop-item-preserved : goal.loop-item-preserved
loop-item-preserved g c =
    first_is_behind (λ _. g.J.JudgeKeyed.fault_at c.args.judge.now false) c.args.items.now c.loop-item.item-index c.item-item.result
    c.loop-item-test.true c.item-item.is c.loop-item.invariant (sym c.in_ok-fault.ensures ∙ c.in-None.is)
