use Rattle.std.proofs.Common.{Some, subst, sym}
use Rattle.bep_model.specs.declared.reason.Reason.TheVariants.{CertificateOrder}
use Rattle.bep_audit.specs.inner.Search.{FindsFailing}
use Rattle.bep_audit.proofs.FailingRow.{finds_disordered}
use Rattle.bep_audit.proofs.failing.first_out_of_order.Goals as goal

pub returns-in-Some : goal.returns-in-Some
returns-in-Some c = λ t.
    subst (λ place. FindsFailing t c.args.rows.now CertificateOrder (Some place)) (sym c.of_row.ensures)
    (finds_disordered t c.args.rows.now c.in-Some.row.now c.in-Some.ensures.first)
