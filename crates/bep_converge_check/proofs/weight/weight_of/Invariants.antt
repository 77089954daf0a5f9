use Rattle.std.proofs.Common.{◌≡◌, ◌≤◌, ◌*◌, take}
use Rattle.bep_converge_check.specs.inner.Weight.{weight}
use Rattle.bep_converge_check.proofs.weight.weight_of.Given as goal

-- the sum of the counters so far, each of which is below 2^64
abbrev pub invariant-loop-counter : goal.invariant-loop-counter
invariant-loop-counter l = record {
  sum : l.sum ≡ weight (take l.counter-index l.counter-items);
  below : l.sum ≤ l.counter-index * 18446744073709551615;
}
