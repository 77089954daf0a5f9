use Rattle.std.proofs.Common.{flat_map, subst}
use Rattle.std.proofs.lemmas.List.{take_all}
use Rattle.bep_tables.specs.Listed.{flight_listed}
use Rattle.bep_tables.specs.inner.Groups.{Took}
use Rattle.bep_tables.proofs.ListingFacts.{took_next, took_none}
use Rattle.bep_tables.proofs.table.listing.add_flights.Goals as goal

pub loop-flight-init : goal.loop-flight-init
loop-flight-init c = took_none c.args.groups.now

pub loop-flight-preserved : goal.loop-flight-preserved
loop-flight-preserved c =
    took_next (flight_listed c.args.device) c.args.flights.now c.loop-flight.flight-index c.flight-item.result c.loop-flight-test.true c.flight-item.is c.loop-flight.invariant
    c.in_ok-add_flight.ensures

pub returns : goal.returns
returns c = subst (λ done. Took (flat_map (flight_listed c.args.device) done) c.args.groups.now c.loop-flight.groups) (take_all c.loop-flight.flight-index c.args.flights.now c.loop-flight-test.false) c.loop-flight.invariant
