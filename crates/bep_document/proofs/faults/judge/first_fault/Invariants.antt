use Rattle.std.proofs.Common.{◌≡◌, [], take, drop}
use Rattle.bep_document.specs.faults.Judge.{first_in}
use Rattle.bep_document.proofs.faults.judge.first_fault.Given as goal

-- what is first among all is first among the rest
abbrev pub invariant-loop-i : goal.invariant-loop-i
invariant-loop-i g l =
    first_in (g.J.Judge.fault_at l.judge) (take l.i l.items) (drop l.i l.items) ≡ first_in (g.J.Judge.fault_at l.judge) [] l.items
