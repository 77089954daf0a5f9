use Rattle.bep_converge_check.specs.inner.Ascending.{AscendUpTo}
use Rattle.bep_converge_check.proofs.line.are_in_line.Given as goal

-- those before the place ascend
abbrev pub invariant-loop-place : goal.invariant-loop-place
invariant-loop-place l = AscendUpTo l.place l.sorted
