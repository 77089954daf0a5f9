use Rattle.std.proofs.Common.{ℕ, List, [], length}
use Rattle.bep_tables.specs.declared.table.entry.TableEntry.{TableEntry}
use Rattle.bep_tables.specs.Listed.{Listed}
use Rattle.bep_tables.specs.inner.Groups.{AreFull, Counted, grouping, rising}
use Rattle.bep_tables.proofs.Rooms.{AreFound, Begun}
use Rattle.bep_tables.proofs.table.groups.rooms.Given as goal

-- the groups are found as before, the pairs that are left are, and the groups of those that aren't have their rooms
abbrev pub invariant-loop-first : goal.invariant-loop-first
invariant-loop-first l = record {
  full : AreFull l.groups.items (rising l.places.entries);
  left : AreFound (rising l.places.entries) (rising l.left);
  begun : (every : List Listed) → Counted every (grouping l.fn.groups.items (rising l.places.entries) []) →
      (done : List (TableEntry × ℕ)) × Begun every (rising l.places.entries) done (rising l.left) l.groups.items (length l.list.items);
}

abbrev pub decreases-loop-first : goal.decreases-loop-first
decreases-loop-first l = length l.left
