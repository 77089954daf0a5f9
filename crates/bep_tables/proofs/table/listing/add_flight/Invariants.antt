use Rattle.std.proofs.Common.{flat_map, take}
use Rattle.bep_tables.specs.Listed.{flying}
use Rattle.bep_tables.specs.inner.Groups.{Took}
use Rattle.bep_tables.proofs.table.listing.add_flight.Given as goal

-- the entries of the records so far are taken
abbrev pub invariant-loop-found : goal.invariant-loop-found
invariant-loop-found l = Took (flat_map (flying l.flight.folder l.device) (take l.found-index l.found-items)) l.initial.groups l.groups
