use Rattle.std.proofs.Common.{◌≡◌, fold, take}
use Rattle.bep_tables.specs.Names.{with_flight}
use Rattle.bep_tables.proofs.names.add_flights.Given as goal

-- the names are those of the messages so far
abbrev pub invariant-loop-flight : goal.invariant-loop-flight
invariant-loop-flight l = l.names ≡ fold (with_flight l.folder) l.initial.names (take l.flight-index l.flights)
