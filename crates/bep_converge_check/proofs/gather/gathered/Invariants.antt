use Rattle.std.proofs.Common.{◌≤◌, length, drop, map}
use Rattle.bep_converge_check.specs.Hindrance.{hinder_shown}
use Rattle.bep_converge_check.proofs.GatherWalk.{Gathered}
use Rattle.bep_converge_check.proofs.gather.gathered.Given as goal

-- what fails at the names that are past is there
abbrev pub invariant-loop-folder : goal.invariant-loop-folder
invariant-loop-folder l = (l.at ≤ length l.table) × Gathered l.cut (drop l.at l.table) (map hinder_shown l.found.items)

abbrev pub decreases-loop-folder : goal.decreases-loop-folder
decreases-loop-folder l = length (drop l.at l.table)
