use Rattle.std.proofs.Common.{◌∙◌, map, ap, subst, sym}
use Rattle.bep_tables.specs.Cut.{IsCut}
use Rattle.bep_row.specs.Fits.{AreQuiet}
use Rattle.bep_row.specs.Row.{folder_with}
use Rattle.bep_row.proofs.Made.{cut_of_parts}
use Rattle.bep_row.proofs.make.cut_of.Goals as goal

pub links_copied-requires : goal.links_copied-requires
links_copied-requires c = subst AreQuiet (sym c.links.ensures.value) c.requires.quiet

pub of-requires : goal.of-requires
of-requires c =
    subst IsCut
    (cut_of_parts c.args.header.now c.args.row.now c.in_ok-folders.folders c.in_ok-links.links
    (c.in_ok-folders.ensures ∙ ap (map (folder_with c.args.row.now)) c.folders.ensures.value)
    (c.in_ok-links.ensures ∙ c.links.ensures.value))
    (c.rows_make_cuts.ensures c.args.header.now c.args.row.now c.is_a_cut.ensures c.requires)

pub returns : goal.returns
returns c =
    c.of.ensures
    ∙ sym (cut_of_parts c.args.header.now c.args.row.now c.in_ok-folders.folders c.in_ok-links.links
    (c.in_ok-folders.ensures ∙ ap (map (folder_with c.args.row.now)) c.folders.ensures.value)
    (c.in_ok-links.ensures ∙ c.links.ensures.value))
