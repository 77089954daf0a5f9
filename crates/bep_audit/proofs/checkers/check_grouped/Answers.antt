use Rattle.std.proofs.Common.{List, [], Some, None, refl, sym, ap, subst, ◌∙◌, arith}
use Rattle.std.specs.Prelude.{⊤}
use Rattle.bep_model.specs.declared.row.Row.{Row}
use Rattle.bep_model.specs.declared.reason.Reason.TheVariants.{CertificateOrder}
use Rattle.bep_model.specs.Reasons.{first_disordered}
use Rattle.bep_tables.specs.Cut.{tables_of}
use Rattle.bep_audit.specs.inner.Search.{FindsFailing}
use Rattle.bep_audit.specs.Shown.{verdict_shown, place_shown}
use Rattle.bep_audit.specs.Walk.{failure_shown}
use Rattle.bep_audit.specs.inner.Walk.{FindsLeast}
use Rattle.bep_audit.proofs.ReasonWalk.{reasons_start, first_failing_at, failing_is_verdict, failing_is_not_settled}
use Rattle.bep_audit.proofs.FailingRow.{finds_disordered}
use Rattle.bep_audit.proofs.LeastWalk.{least_is_first, none_is_settled}
use Rattle.bep_audit.proofs.checkers.check_grouped.Goals as goal

pub returns-in-Some-clause-verdict : goal.returns-in-Some-clause-verdict
returns-in-Some-clause-verdict c =
    let t = tables_of c.args.cut.now in
    let rows = c.args.certificate.now in
    let spot = place_shown c.of_row-place.result in
    let found : FindsFailing (tables_of c.args.cut.now) c.args.certificate.now CertificateOrder (Some (place_shown c.of_row-place.result)) =
    subst (λ place. FindsFailing (tables_of c.args.cut.now) c.args.certificate.now CertificateOrder (Some place)) (sym c.of_row-place.ensures)
    (finds_disordered (tables_of c.args.cut.now) c.args.certificate.now c.in-Some.row.now (c.in-Some.ensures.first ∙ ap first_disordered c.rows-rows.ensures)) in
    failing_is_verdict t rows (verdict_shown c.at.result) CertificateOrder spot c.at.ensures
    (first_failing_at t rows 0 (omega arith) (reasons_start t rows c.reasons_are_numbered.ensures.within) spot found)

pub returns-in-None-clause-verdict : goal.returns-in-None-clause-verdict
returns-in-None-clause-verdict c =
    none_is_settled (tables_of c.args.cut.now) c.args.certificate.now c.settled_is_faultless.ensures
    (subst (λ (rows : List Row). FindsLeast (tables_of c.args.cut.now) rows (λ _. ⊤) None) c.rows-rows.ensures c.in-None.ensures)

pub returns-in-None-clause-settled : goal.returns-in-None-clause-settled
returns-in-None-clause-settled c = (λ _. returns-in-None-clause-verdict c, λ _. refl)

pub returns-in-None-clause-calm : goal.returns-in-None-clause-calm
returns-in-None-clause-calm c = λ _. c.settled_is_calm.ensures (tables_of c.args.cut.now) c.args.certificate.now [] (returns-in-None-clause-verdict c)

pub returns-in-None-clause-stays_put : goal.returns-in-None-clause-stays_put
returns-in-None-clause-stays_put c = λ _. c.settled_stays_put.ensures (tables_of c.args.cut.now) c.args.certificate.now (returns-in-None-clause-verdict c)

pub returns-in-None-clause-stays_settled : goal.returns-in-None-clause-stays_settled
returns-in-None-clause-stays_settled c = λ _. c.settled_stays_settled.ensures (tables_of c.args.cut.now) c.args.certificate.now (returns-in-None-clause-verdict c)

pub returns-in-Some-least_failure-clause-verdict : goal.returns-in-Some-least_failure-clause-verdict
returns-in-Some-least_failure-clause-verdict c =
    let t = tables_of c.args.cut.now in
    let rows = c.args.certificate.now in
    let least = failure_shown c.in-Some-least_failure.least in
    failing_is_verdict t rows (verdict_shown c.at-in-Some-least_failure.result) least.reason least.place c.at-in-Some-least_failure.ensures
    (least_is_first t rows least
    (subst (λ (all : List Row). FindsLeast (tables_of c.args.cut.now) all (λ _. ⊤) (Some (failure_shown c.in-Some-least_failure.least))) c.rows-rows.ensures c.in-Some-least_failure.ensures))

pub returns-in-Some-least_failure-clause-settled : goal.returns-in-Some-least_failure-clause-settled
returns-in-Some-least_failure-clause-settled c =
    let least = failure_shown c.in-Some-least_failure.least in
    failing_is_not_settled (tables_of c.args.cut.now) c.args.certificate.now c.settled_is_faultless.ensures c.at-in-Some-least_failure.result least.reason least.place c.at-in-Some-least_failure.ensures (returns-in-Some-least_failure-clause-verdict c)
