use Rattle.std.proofs.Common.{◌↔◌, drop}
use Rattle.bep_record.specs.Vector.{RisesAbove, IsVersion}
use Rattle.bep_record.proofs.vector.is_version.Given as goal

-- the rest rises above the last id exactly where the whole list is well formed
abbrev pub invariant-loop-id : goal.invariant-loop-id
invariant-loop-id l = RisesAbove l.low (drop l.id-index l.counters) ↔ IsVersion l.counters
