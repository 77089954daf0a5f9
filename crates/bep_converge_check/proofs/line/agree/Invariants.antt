use Rattle.bep_converge_check.proofs.LineFacts.{AgreeUpTo}
use Rattle.bep_converge_check.proofs.line.agree.Given as goal

-- those before the place agree
abbrev pub invariant-loop-place : goal.invariant-loop-place
invariant-loop-place l = AgreeUpTo l.place l.sorted
