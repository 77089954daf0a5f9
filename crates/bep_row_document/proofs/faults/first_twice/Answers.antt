use Rattle.std.proofs.Common.{◌≡◌, [], subst}
use Rattle.std.specs.Prelude.{IfOk}
use Rattle.bep_document.specs.faults.Judge.{first_in}
use Rattle.bep_row_document.specs.Faults.{cell_again, first_twice}
use Rattle.bep_row_document.proofs.faults.first_twice.Goals as goal

pub returns : goal.returns
unfolding first_twice
returns c =
    subst (λ folder. IfOk c.first_fault.result (λ found. found ≡ first_in (cell_again folder c.args.row.now.1.0) [] c.args.row.now.1.1.1.1.0)) c.of.ensures.folder
    (subst (λ name. IfOk c.first_fault.result (λ found. found ≡ first_in (cell_again c.of.result.folder.now name) [] c.args.row.now.1.1.1.1.0)) c.of.ensures.name
    (subst (λ cells. IfOk c.first_fault.result (λ found. found ≡ first_in (cell_again c.of.result.folder.now c.of.result.name.now) [] cells)) c.cells_of.ensures c.first_fault.ensures))
