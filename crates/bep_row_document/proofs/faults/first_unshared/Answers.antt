use Rattle.std.proofs.Common.{◌≡◌, [], subst, ◌∙◌, ap}
use Rattle.std.specs.Prelude.{IfOk}
use Rattle.bep_document.specs.faults.Judge.{first_in}
use Rattle.bep_tables.specs.Cut.{shares_of}
use Rattle.bep_row_document.specs.Faults.{first_unshared, unshared}
use Rattle.bep_row_document.proofs.faults.first_unshared.Goals as goal

pub returns : goal.returns
unfolding first_unshared
returns c =
    let folders = c.args.header.now.folders in
    let shares = c.shares-shares.ensures.value ∙ ap (λ folder. shares_of folder folders) c.folder_of.ensures in
    subst (λ folder. IfOk c.first_fault.result (λ found. found ≡ first_in (unshared folder c.args.row.now.1.0 (shares_of c.args.row.now.0 folders)) [] c.args.row.now.1.1.1.1.0)) c.of.ensures.folder
    (subst (λ name. IfOk c.first_fault.result (λ found. found ≡ first_in (unshared c.of.result.folder.now name (shares_of c.args.row.now.0 folders)) [] c.args.row.now.1.1.1.1.0)) c.of.ensures.name
    (subst (λ all. IfOk c.first_fault.result (λ found. found ≡ first_in (unshared c.of.result.folder.now c.of.result.name.now all) [] c.args.row.now.1.1.1.1.0)) shares
    (subst (λ cells. IfOk c.first_fault.result (λ found. found ≡ first_in (unshared c.of.result.folder.now c.of.result.name.now c.shares-shares.result.now) [] cells)) c.cells_of.ensures c.first_fault.ensures)))
