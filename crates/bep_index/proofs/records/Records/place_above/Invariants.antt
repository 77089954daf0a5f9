use Rattle.std.proofs.Common.{◌-◌, ◌≤◌, length}
use Rattle.bep_index.specs.Order.{count_up_to}
use Rattle.bep_index.proofs.records.Records.place_above.Given as goal

-- the place is between the two
abbrev pub invariant-loop-low : goal.invariant-loop-low
invariant-loop-low l = (l.low ≤ count_up_to l.sequence l.self) × (count_up_to l.sequence l.self ≤ l.high) × (l.high ≤ length l.self)

abbrev pub decreases-loop-low : goal.decreases-loop-low
decreases-loop-low l = l.high - l.low
