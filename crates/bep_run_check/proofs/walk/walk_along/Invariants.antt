use Rattle.bep_run_check.specs.inner.Rest.{lefts}
use Rattle.bep_run_check.proofs.Walking.{Walked, left_in}
use Rattle.bep_run_check.proofs.walk.walk_along.Given as goal

-- the walk is past so many events
abbrev pub invariant-loop-event : goal.invariant-loop-event
invariant-loop-event l = Walked l.logs (lefts l.walk) l.count

abbrev pub decreases-loop-event : goal.decreases-loop-event
decreases-loop-event l = left_in (lefts l.walk)
