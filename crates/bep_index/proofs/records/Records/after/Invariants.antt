use Rattle.std.proofs.Common.{◌≡◌, ◌+◌, ◌≤◌, length, take, drop}
use Rattle.bep_index.specs.Order.{count_up_to}
use Rattle.bep_index.proofs.records.Records.after.Given as goal

-- what was found is what stands before the place
abbrev pub invariant-loop-taken : goal.invariant-loop-taken
invariant-loop-taken l =
    record {
      found : l.found.items ≡ take l._taken (drop (count_up_to l.sequence l.self) l.self);
      place : l.place ≡ count_up_to l.sequence l.self + l._taken;
      within : l.place ≤ length l.self;
    }
