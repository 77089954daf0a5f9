use Rattle.std.proofs.Common.{◌≤◌, length, drop, map}
use Rattle.bep_audit.specs.Shown.{place_shown}
use Rattle.bep_audit.proofs.WonWalk.{Won}
use Rattle.bep_audit.proofs.certifier.winners_among.Given as goal

-- the rows and the places so far are those of the known names that are past
abbrev pub invariant-loop-folder : goal.invariant-loop-folder
invariant-loop-folder l = (l.at ≤ length l.table) × Won l.cut (drop l.at l.table) l.rows.items (map place_shown l.without.items)

abbrev pub decreases-loop-folder : goal.decreases-loop-folder
decreases-loop-folder l = length (drop l.at l.table)
