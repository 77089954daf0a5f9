use Rattle.std.proofs.Common.{List, Contains, Some, None, subst, sym}
use Rattle.bep_tables.specs.declared.share.SharedFolder.{SharedFolder}
use Rattle.bep_model.specs.declared.reason.Reason.TheVariants.{NameMissing}
use Rattle.bep_model.specs.Reasons.{place_cmp}
use Rattle.bep_tables.specs.Cut.{tables_of}
use Rattle.bep_audit.specs.inner.Search.{FindsFailing}
use Rattle.bep_audit.proofs.FolderWalk.{AsksFolder, folders_in_order, folder_has_rows, folder_lacks_row, found_in_folders}
use Rattle.bep_audit.proofs.WalkFacts.{walk_starts, walk_goes_on, walk_stops, walk_ends}
use Rattle.bep_audit.proofs.missing.first_missing.Goals as goal

pub loop-held-init : goal.loop-held-init
loop-held-init c = walk_starts place_cmp (AsksFolder c.args.cut.now c.args.rows.now) c.folders-held-items.result.now

pub loop-held-preserved : goal.loop-held-preserved
loop-held-preserved c =
    let cut = c.args.cut.now in
    let folders = c.folders-held-items.result.now in
    let member = subst (λ (all : List SharedFolder). Contains all c.held-item.result) c.folders-held-items.ensures.value (c.loop-held.held-index, c.loop-held-test.true, sym c.held-item.is) in
    walk_goes_on place_cmp (AsksFolder cut c.args.rows.now) folders c.loop-held.held-index c.held-item.result c.loop-held-test.true c.held-item.is
    (folder_has_rows c.cut_says.ensures cut c.folders-held-items.ensures.a_cut c.args.rows.now c.held-item.result member c.links.result.now c.links.ensures.value c.in_default.ensures)
    c.loop-held.invariant

pub returns-in-Some : goal.returns-in-Some
returns-in-Some c =
    let cut = c.args.cut.now in
    let rows = c.args.rows.now in
    let folders = c.folders-held-items.result.now in
    let member = subst (λ (all : List SharedFolder). Contains all c.held-item.result) c.folders-held-items.ensures.value (c.loop-held.held-index, c.loop-held-test.true, sym c.held-item.is) in
    subst (λ place. FindsFailing (tables_of cut) rows NameMissing (Some place)) (sym c.of_name.ensures)
    (found_in_folders c.cut_says.ensures cut c.folders-held-items.ensures.a_cut rows folders c.folders-held-items.ensures.value
    (Some (record { folder = c.held-item.result.folder; name = c.in-Some.name.now; device = None }))
    (walk_stops place_cmp (AsksFolder cut rows) folders c.loop-held.held-index c.held-item.result
    (record { folder = c.held-item.result.folder; name = c.in-Some.name.now; device = None })
    c.loop-held-test.true c.held-item.is
    (folders_in_order c.cut_says.ensures cut c.folders-held-items.ensures.a_cut rows folders c.folders-held-items.ensures.value)
    (folder_lacks_row c.cut_says.ensures cut c.folders-held-items.ensures.a_cut rows c.held-item.result member c.links.result.now c.links.ensures.value c.in-Some.name.now c.in-Some.ensures)
    c.loop-held.invariant))

pub returns : goal.returns
returns c =
    let cut = c.args.cut.now in
    let folders = c.folders-held-items.result.now in
    found_in_folders c.cut_says.ensures cut c.folders-held-items.ensures.a_cut c.args.rows.now folders c.folders-held-items.ensures.value None
    (walk_ends place_cmp (AsksFolder cut c.args.rows.now) folders c.loop-held.held-index c.loop-held-test.false c.loop-held.invariant)
