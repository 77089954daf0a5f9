use Rattle.std.proofs.Common.{subst}
use Rattle.bep_tables.specs.Listed.{views_listed}
use Rattle.bep_tables.specs.inner.Groups.{Took}
use Rattle.bep_tables.proofs.ListingFacts.{took_share}
use Rattle.bep_tables.proofs.table.listing.add_share.Goals as goal

pub returns : goal.returns
returns c =
    took_share c.args.folder.now c.args.share.now c.in_ok-add_records.ensures c.in_ok-add_nodes.ensures
    (subst (λ views. Took (views_listed c.args.folder.now c.args.share.now.device views) c.add_nodes.new.groups c.add_views.new.groups) c.as_slice.ensures c.in_ok-add_views.ensures)
    c.in_ok-add_records-2.ensures
