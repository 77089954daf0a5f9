use Rattle.std.proofs.Common.{◌≡◌, drop}
use Rattle.bep_record.specs.Vector.{counter_of}
use Rattle.bep_record.proofs.vector.counter_at.Given as goal

-- the rest has the counter that the whole list has
abbrev pub invariant-loop-counter : goal.invariant-loop-counter
invariant-loop-counter l = counter_of (drop l.counter-index l.counters) l.id ≡ counter_of l.counters l.id
