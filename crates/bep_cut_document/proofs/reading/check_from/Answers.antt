use Rattle.std.proofs.Common.{sym, subst}
use Rattle.bep_tables.specs.Cut.{IsCut}
use Rattle.bep_cut_document.proofs.CutWritten.{cut_is_written}
use Rattle.bep_cut_document.proofs.LinksWritten.{links_well_formed}
use Rattle.bep_cut_document.proofs.reading.check_from.Goals as goal

pub all_in_order-requires-2 : goal.all_in_order-requires-2
all_in_order-requires-2 c = links_well_formed c.args.parts.folders c.args.parts.links c.requires.each_link

pub of-requires : goal.of-requires
of-requires c =
    let law = c.records_make_an_index.ensures in
    subst IsCut (λ i. record { folders = sym c.in_ok-folders.ensures i; links = sym c.in_ok-links.ensures i })
    (cut_is_written law.index law.found c.args.parts c.requires)
