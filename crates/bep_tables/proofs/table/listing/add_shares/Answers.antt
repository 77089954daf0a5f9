use Rattle.std.proofs.Common.{flat_map, subst}
use Rattle.std.proofs.lemmas.List.{take_all}
use Rattle.bep_tables.specs.Listed.{share_listed}
use Rattle.bep_tables.specs.inner.Groups.{Took}
use Rattle.bep_tables.proofs.ListingFacts.{took_next, took_none}
use Rattle.bep_tables.proofs.table.listing.add_shares.Goals as goal

pub loop-share-init : goal.loop-share-init
loop-share-init c = took_none c.args.groups.now

pub loop-share-preserved : goal.loop-share-preserved
loop-share-preserved c =
    took_next (share_listed c.args.folder.now) c.args.shares.now c.loop-share.share-index c.share-item.result c.loop-share-test.true c.share-item.is c.loop-share.invariant
    c.in_ok-add_share.ensures

pub returns : goal.returns
returns c = subst (λ done. Took (flat_map (share_listed c.args.folder.now) done) c.args.groups.now c.loop-share.groups) (take_all c.loop-share.share-index c.args.shares.now c.loop-share-test.false) c.loop-share.invariant
