use Rattle.std.proofs.Common.{flat_map, take}
use Rattle.bep_tables.specs.Listed.{flight_listed}
use Rattle.bep_tables.specs.inner.Groups.{Took}
use Rattle.bep_tables.proofs.table.listing.add_flights.Given as goal

-- the entries of the messages so far are taken
abbrev pub invariant-loop-flight : goal.invariant-loop-flight
invariant-loop-flight l = Took (flat_map (flight_listed l.device) (take l.flight-index l.flights)) l.initial.groups l.groups
