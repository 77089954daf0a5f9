use Rattle.std.proofs.Common.{flat_map, subst}
use Rattle.std.proofs.lemmas.List.{take_all}
use Rattle.bep_tables.specs.Listed.{flight_listed, link_listed}
use Rattle.bep_tables.specs.inner.Groups.{Took}
use Rattle.bep_tables.proofs.ListingFacts.{took_link, took_next, took_none}
use Rattle.bep_tables.proofs.table.listing.add_links.Goals as goal

pub loop-link-init : goal.loop-link-init
loop-link-init c = took_none c.args.groups.now

pub loop-link-preserved : goal.loop-link-preserved
loop-link-preserved c =
    took_next link_listed c.args.links.now c.loop-link.link-index c.link-item.result c.loop-link-test.true c.link-item.is c.loop-link.invariant
    (took_link c.link-item.result
    (subst (λ flights. Took (flat_map (flight_listed c.link-item.result.a) flights) c.loop-link.groups c.add_flights.new.groups) c.as_slice.ensures c.in_ok-add_flights.ensures)
    (subst (λ flights. Took (flat_map (flight_listed c.link-item.result.b) flights) c.add_flights.new.groups c.add_flights-in-loop-link.new.groups) c.as_slice-in-loop-link.ensures c.in_ok-add_flights-2.ensures))

pub returns : goal.returns
returns c = subst (λ done. Took (flat_map link_listed done) c.args.groups.now c.loop-link.groups) (take_all c.loop-link.link-index c.args.links.now c.loop-link-test.false) c.loop-link.invariant
