use Rattle.std.proofs.Common.{◌≡◌, false, [], take, drop}
use Rattle.bep_document.specs.faults.Judge.{first_in}
use Rattle.bep_document.proofs.faults.judge.first_of_distinct.Given as goal

-- what is first among all is first among the rest
abbrev pub invariant-loop-item : goal.invariant-loop-item
invariant-loop-item g l = first_in (λ _. g.J.JudgeKeyed.fault_at l.judge false) (take l.item-index l.items) (drop l.item-index l.items) ≡ first_in (λ _. g.J.JudgeKeyed.fault_at l.judge false) [] l.items
