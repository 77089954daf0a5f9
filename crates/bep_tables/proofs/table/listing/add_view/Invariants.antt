use Rattle.std.proofs.Common.{flat_map}
use Rattle.bep_tables.specs.declared.table.entry.Source.TheVariants.{View}
use Rattle.bep_tables.specs.Listed.{foreign_listed, view_listed}
use Rattle.bep_tables.specs.inner.Groups.{Grouping, Took}
use Rattle.bep_tables.proofs.table.listing.add_view.Given as goal

-- whoever takes the entries that are left took all of them
abbrev pub invariant-loop-name : goal.invariant-loop-name
invariant-loop-name l =
    (last : Grouping) → Took (flat_map (foreign_listed l.folder l.device View) l.name-iterator) l.groups last → Took (view_listed l.folder l.device l.view) l.initial.groups last
