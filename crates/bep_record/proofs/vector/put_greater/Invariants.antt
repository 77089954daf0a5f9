use Rattle.std.proofs.Common.{◌≡◌, ℕ, drop, max}
use Rattle.bep_record.specs.Vector.{counter_of, IsVersion, ids_in_either}
use Rattle.bep_record.proofs.vector.put_greater.Given as goal

-- what is left to take over, and the counters so far, have the same greater counters, and as many ids
abbrev pub invariant-loop-id : goal.invariant-loop-id
invariant-loop-id l = record {
  version : IsVersion l.counters.items;
  rest_version : IsVersion (drop l.id-index l.others);
  counted : ids_in_either l.counters.items (drop l.id-index l.others) ≡ ids_in_either l.initial.counters.items l.others;
  greater : (id : ℕ) → max (counter_of l.counters.items id) (counter_of (drop l.id-index l.others) id) ≡ max (counter_of l.initial.counters.items id) (counter_of l.others id);
}
