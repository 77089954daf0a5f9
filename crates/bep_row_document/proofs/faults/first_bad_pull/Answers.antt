use Rattle.std.proofs.Common.{◌≡◌, [], subst}
use Rattle.std.specs.Prelude.{IfOk}
use Rattle.bep_document.specs.faults.Judge.{first_in}
use Rattle.bep_row_document.specs.Faults.{bad_pull, first_bad_pull}
use Rattle.bep_row_document.proofs.faults.first_bad_pull.Goals as goal

pub returns : goal.returns
unfolding first_bad_pull
returns c =
    subst (λ folder. IfOk c.first_fault.result (λ found. found ≡ first_in (bad_pull folder c.args.row.now.1.0 c.args.row.now.1.1.0) [] c.args.row.now.1.1.1.1.0)) c.of.ensures.folder
    (subst (λ name. IfOk c.first_fault.result (λ found. found ≡ first_in (bad_pull c.of.result.folder.now name c.args.row.now.1.1.0) [] c.args.row.now.1.1.1.1.0)) c.of.ensures.name
    (subst (λ entries. IfOk c.first_fault.result (λ found. found ≡ first_in (bad_pull c.of.result.folder.now c.of.result.name.now entries) [] c.args.row.now.1.1.1.1.0)) c.records_of-records.ensures
    (subst (λ cells. IfOk c.first_fault.result (λ found. found ≡ first_in (bad_pull c.of.result.folder.now c.of.result.name.now c.records_of-records.result.now) [] cells)) c.cells_of.ensures c.first_fault.ensures)))
