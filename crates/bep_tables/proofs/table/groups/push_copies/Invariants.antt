use Rattle.std.proofs.Common.{◌≡◌, ◌+◌, length}
use Rattle.bep_tables.proofs.table.groups.push_copies.Given as goal

-- so many more are there
abbrev pub invariant-loop-copy : goal.invariant-loop-copy
invariant-loop-copy l = length l.list.items ≡ length l.initial.list.items + l._copy
