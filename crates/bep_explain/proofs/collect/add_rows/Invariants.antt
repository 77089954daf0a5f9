use Rattle.std.proofs.Common.{◌≤◌, ◌-◌, length, map, take}
use Rattle.bep_audit.specs.Walk.{failure_shown}
use Rattle.bep_gather.specs.Adding.{AddsFailing, Each}
use Rattle.bep_explain.specs.inner.Rows.{row_shown}
use Rattle.bep_explain.specs.inner.Says.{SaysAtRow}
use Rattle.bep_explain.proofs.collect.add_rows.Given as goal

-- what fails at the rows so far is there
abbrev pub invariant-loop-place : goal.invariant-loop-place
invariant-loop-place l =
    (l.place ≤ length l.rows) × AddsFailing (Each (SaysAtRow l.cut) (map row_shown (take l.place l.rows))) (map failure_shown l.initial.found.items) (map failure_shown l.found.items)

abbrev pub decreases-loop-place : goal.decreases-loop-place
decreases-loop-place l = length l.rows - l.place
