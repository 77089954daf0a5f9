use Rattle.std.proofs.Common.{option_map, subst, sym}
use Rattle.bep_tables.specs.Cut.{tables_of}
use Rattle.bep_audit.specs.inner.Search.{FindsFailing}
use Rattle.bep_audit.specs.Shown.{place_shown}
use Rattle.bep_audit.proofs.failing.first_failing.Goals as goal

pub returns-in-CertificateOrder : goal.returns-in-CertificateOrder
returns-in-CertificateOrder c =
    subst (λ reason. FindsFailing (tables_of c.args.cut.now) c.args.rows.now reason (option_map place_shown c.first_out_of_order.result))
    (sym c.in-CertificateOrder.is) (c.first_out_of_order.ensures (tables_of c.args.cut.now))
