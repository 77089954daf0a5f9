use Rattle.std.proofs.Common.{◌≡◌, ◌-◌, drop}
use Rattle.bep_model.specs.Reasons.{first_disordered}
use Rattle.bep_audit.proofs.rows.first_disordered.Given as goal

abbrev pub invariant-loop-place : goal.invariant-loop-place
invariant-loop-place l = first_disordered (drop (l.place - 1) l.rows) ≡ first_disordered l.rows
