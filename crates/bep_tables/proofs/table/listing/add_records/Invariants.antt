use Rattle.std.proofs.Common.{map}
use Rattle.bep_tables.specs.Listed.{records_listed, recorded}
use Rattle.bep_tables.specs.inner.Groups.{Grouping, Took}
use Rattle.bep_tables.proofs.table.listing.add_records.Given as goal

-- whoever takes the entries that are left took all of them
abbrev pub invariant-loop-name : goal.invariant-loop-name
invariant-loop-name l =
    (last : Grouping) → Took (map (recorded l.folder l.device l.source) l.name-iterator) l.groups last → Took (records_listed l.folder l.device l.source l.records) l.initial.groups last
