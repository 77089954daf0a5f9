use Rattle.std.proofs.Common.{map}
use Rattle.bep_tables.specs.Listed.{nodes_listed, stored}
use Rattle.bep_tables.specs.inner.Groups.{Grouping, Took}
use Rattle.bep_tables.proofs.table.listing.add_nodes.Given as goal

-- whoever takes the entries that are left took all of them
abbrev pub invariant-loop-name : goal.invariant-loop-name
invariant-loop-name l =
    (last : Grouping) → Took (map (stored l.folder l.device) l.name-iterator) l.groups last → Took (nodes_listed l.folder l.device l.store) l.initial.groups last
