use Rattle.std.proofs.Common.{flat_map, subst}
use Rattle.std.proofs.lemmas.List.{take_all}
use Rattle.bep_tables.specs.Listed.{folder_listed, share_listed}
use Rattle.bep_tables.specs.inner.Groups.{Took}
use Rattle.bep_tables.proofs.ListingFacts.{took_next, took_none}
use Rattle.bep_tables.proofs.table.listing.add_folders.Goals as goal

pub loop-held-init : goal.loop-held-init
loop-held-init c = took_none c.args.groups.now

pub loop-held-preserved : goal.loop-held-preserved
loop-held-preserved c =
    took_next folder_listed c.args.folders.now c.loop-held.held-index c.held-item.result c.loop-held-test.true c.held-item.is c.loop-held.invariant
    (subst (λ shares. Took (flat_map (share_listed c.held-item.result.folder) shares) c.loop-held.groups c.add_shares.new.groups) c.as_slice.ensures c.in_ok-add_shares.ensures)

pub returns : goal.returns
returns c = subst (λ done. Took (flat_map folder_listed done) c.args.groups.now c.loop-held.groups) (take_all c.loop-held.held-index c.args.folders.now c.loop-held-test.false) c.loop-held.invariant
