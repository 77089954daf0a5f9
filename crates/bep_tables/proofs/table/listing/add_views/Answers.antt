use Rattle.std.proofs.Common.{flat_map, subst}
use Rattle.std.proofs.lemmas.List.{take_all}
use Rattle.bep_tables.specs.Listed.{view_listed}
use Rattle.bep_tables.specs.inner.Groups.{Took}
use Rattle.bep_tables.proofs.ListingFacts.{took_next, took_none}
use Rattle.bep_tables.proofs.table.listing.add_views.Goals as goal

pub loop-view-init : goal.loop-view-init
loop-view-init c = took_none c.args.groups.now

pub loop-view-preserved : goal.loop-view-preserved
loop-view-preserved c =
    took_next (view_listed c.args.folder.now c.args.device) c.args.views.now c.loop-view.view-index c.view-item.result c.loop-view-test.true c.view-item.is c.loop-view.invariant
    c.in_ok-add_view.ensures

pub returns : goal.returns
returns c = subst (λ done. Took (flat_map (view_listed c.args.folder.now c.args.device) done) c.args.groups.now c.loop-view.groups) (take_all c.loop-view.view-index c.args.views.now c.loop-view-test.false) c.loop-view.invariant
