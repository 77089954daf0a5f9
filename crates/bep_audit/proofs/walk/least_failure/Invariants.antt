use Rattle.std.proofs.Common.{◌+◌, ◌≤◌, length, drop, option_map}
use Rattle.bep_audit.specs.Walk.{failure_shown}
use Rattle.bep_audit.proofs.LeastWalk.{Walked}
use Rattle.bep_audit.proofs.walk.least_failure.Given as goal

-- the least failure so far is that of the names that are past
abbrev pub invariant-loop-folder : goal.invariant-loop-folder
invariant-loop-folder l =
    (l.at ≤ length l.table) × (l.place ≤ length l.rows) × Walked l.cut l.rows (drop l.at l.table) (drop l.place l.rows) (option_map failure_shown l.least)

abbrev pub decreases-loop-folder : goal.decreases-loop-folder
decreases-loop-folder l = length (drop l.at l.table) + length (drop l.place l.rows)
