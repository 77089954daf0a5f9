use Rattle.std.proofs.Common.{◌≡◌, ◌-◌, ◌^◌, min, take}
use Rattle.bep_tables.specs.inner.Groups.{numbered}
use Rattle.bep_tables.proofs.table.groups.counted.Given as goal

-- the sum of the numbers so far, as far as a number goes
abbrev pub invariant-loop-group : goal.invariant-loop-group
invariant-loop-group l = l.count ≡ min (numbered (take l.group-index l.groups)) (2 ^ 64 - 1)
