use Rattle.std.proofs.Common.{flat_map, subst, ◌∙◌}
use Rattle.std.proofs.lemmas.List.{take_all}
use Rattle.bep_record.specs.declared.entry.Entry.{Entry}
use Rattle.bep_tables.specs.declared.table.entry.Source.TheVariants.{Flight as OnItsWay}
use Rattle.bep_tables.specs.Listed.{flying, foreign_listed}
use Rattle.bep_tables.specs.inner.Groups.{Took}
use Rattle.bep_tables.proofs.ListingFacts.{took_next, took_none}
use Rattle.bep_tables.proofs.table.listing.add_flight.Goals as goal

pub loop-found-init : goal.loop-found-init
loop-found-init c = took_none c.args.groups.now

pub loop-found-preserved : goal.loop-found-preserved
loop-found-preserved c =
    took_next (flying c.args.flight.now.folder c.args.device) c.as_slice-found-items.result.now c.loop-found.found-index c.found-item.result c.loop-found-test.true c.found-item.is c.loop-found.invariant
    (subst (λ (e : Entry). Took (foreign_listed c.args.flight.now.folder c.args.device OnItsWay (e.name, c.found-item.result)) c.loop-found.groups c.add_foreign.new.groups) c.entry.ensures.value c.in_ok-add_foreign.ensures)

pub returns : goal.returns
returns c =
    subst (λ done. Took (flat_map (flying c.args.flight.now.folder c.args.device) done) c.args.groups.now c.loop-found.groups)
    (take_all c.loop-found.found-index c.as_slice-found-items.result.now c.loop-found-test.false ∙ c.as_slice-found-items.ensures)
    c.loop-found.invariant
