use Rattle.std.proofs.Common.{flat_map, subst}
use Rattle.bep_tables.specs.Listed.{folder_listed, link_listed}
use Rattle.bep_tables.specs.inner.Groups.{Took}
use Rattle.bep_tables.proofs.ListingFacts.{took_cut}
use Rattle.bep_tables.proofs.table.listing.add_cut.Goals as goal

pub returns : goal.returns
returns c =
    took_cut c.args.cut.now
    (subst (λ folders. Took (flat_map folder_listed folders) c.args.groups.now c.add_folders.new.groups) c.folders.ensures.value c.in_ok-add_folders.ensures)
    (subst (λ links. Took (flat_map link_listed links) c.add_folders.new.groups c.add_links.new.groups) c.links.ensures.value c.in_ok-add_links.ensures)
