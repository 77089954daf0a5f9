use Rattle.std.proofs.Common.{◌≤◌, length, drop, option_map}
use Rattle.bep_converge_check.specs.Hindrance.{hinder_shown}
use Rattle.bep_converge_check.proofs.HinderWalk.{Walked}
use Rattle.bep_converge_check.proofs.walk.least_hindrance.Given as goal

-- the least so far is that of the names that are past
abbrev pub invariant-loop-folder : goal.invariant-loop-folder
invariant-loop-folder l = (l.at ≤ length l.table) × Walked l.cut (drop l.at l.table) (option_map hinder_shown l.least)

abbrev pub decreases-loop-folder : goal.decreases-loop-folder
decreases-loop-folder l = length (drop l.at l.table)
