use Rattle.std.proofs.Common.{◌≡◌}
use Rattle.bep_run_check.specs.inner.Rest.{lefts}
use Rattle.bep_run_check.proofs.ListDone.{done}
use Rattle.bep_run_check.proofs.WalkLists.{moved}
use Rattle.bep_run_check.proofs.walk.pass.Given as goal

-- the walk is past the ticket in the logs before this place
abbrev pub invariant-loop-one : goal.invariant-loop-one
invariant-loop-one l = lefts l.walk ≡ done (moved l.ticket) l.one-index (lefts l.fn.walk)
