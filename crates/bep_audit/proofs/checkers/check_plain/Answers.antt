use Rattle.std.proofs.Common.{List, [], Some, None, subst, sym, refl}
use Rattle.bep_model.specs.declared.row.Row.{Row}
use Rattle.bep_model.specs.Settled.{Rise}
use Rattle.bep_tables.specs.Cut.{tables_of}
use Rattle.bep_audit.specs.inner.Search.{FindsFailing}
use Rattle.bep_audit.specs.Shown.{verdict_shown, place_shown}
use Rattle.bep_audit.proofs.ReasonWalk.{reason_at, reasons_start, reasons_go_on, rows_rise, first_failing_at, settled_at_last, failing_is_verdict, failing_is_not_settled, calm_of_none}
use Rattle.bep_audit.proofs.checkers.check_plain.Goals as goal

pub loop-reason-init : goal.loop-reason-init
loop-reason-init c = reasons_start (tables_of c.args.cut.now) c.args.certificate.now c.reasons_are_numbered.ensures.within

pub first_failing-requires : goal.first_failing-requires
first_failing-requires c = λ differs.
    subst Rise (sym c.rows.ensures) (rows_rise (tables_of c.args.cut.now) c.args.certificate.now c.rows_rise_in_order.ensures c.reasons_are_numbered.ensures.different c.loop-reason.reason-index c.loop-reason-test.true c.loop-reason.invariant differs)

pub loop-reason-preserved : goal.loop-reason-preserved
loop-reason-preserved c =
    reasons_go_on (tables_of c.args.cut.now) c.args.certificate.now c.reasons_are_numbered.ensures.different c.loop-reason.reason-index c.loop-reason-test.true c.loop-reason.invariant
    (subst (λ (rows : List Row). FindsFailing (tables_of c.args.cut.now) rows (reason_at c.loop-reason.reason-index) None) c.rows.ensures c.in_default.ensures)

pub returns-in-Some-clause-verdict : goal.returns-in-Some-clause-verdict
returns-in-Some-clause-verdict c =
    let t = tables_of c.args.cut.now in
    let rows = c.args.certificate.now in
    let spot = place_shown c.in-Some.spot in
    let found = subst (λ (all : List Row). FindsFailing t all (reason_at c.loop-reason.reason-index) (Some spot)) c.rows.ensures c.in-Some.ensures in
    failing_is_verdict t rows (verdict_shown c.at.result) (reason_at c.loop-reason.reason-index) spot c.at.ensures
    (first_failing_at t rows c.loop-reason.reason-index c.loop-reason-test.true c.loop-reason.invariant spot found)

pub returns-in-Some-clause-settled : goal.returns-in-Some-clause-settled
returns-in-Some-clause-settled c =
    failing_is_not_settled (tables_of c.args.cut.now) c.args.certificate.now c.settled_is_faultless.ensures c.at.result (reason_at c.loop-reason.reason-index) (place_shown c.in-Some.spot) c.at.ensures (returns-in-Some-clause-verdict c)

pub returns-in-Some-clause-calm : goal.returns-in-Some-clause-calm
returns-in-Some-clause-calm c =
    calm_of_none (tables_of c.args.cut.now) c.args.certificate.now c.at.result (reason_at c.loop-reason.reason-index) (place_shown c.in-Some.spot) c.at.ensures

pub returns-clause-verdict : goal.returns-clause-verdict
returns-clause-verdict c = settled_at_last (tables_of c.args.cut.now) c.args.certificate.now c.settled_is_faultless.ensures c.reasons_are_numbered.ensures.within c.loop-reason.reason-index c.loop-reason-test.false c.loop-reason.invariant

pub returns-clause-settled : goal.returns-clause-settled
returns-clause-settled c = (λ _. returns-clause-verdict c, λ _. refl)

pub returns-clause-calm : goal.returns-clause-calm
returns-clause-calm c = λ _. c.settled_is_calm.ensures (tables_of c.args.cut.now) c.args.certificate.now [] (returns-clause-verdict c)

pub returns-in-Some-clause-stays_put : goal.returns-in-Some-clause-stays_put
returns-in-Some-clause-stays_put c =
    calm_of_none (tables_of c.args.cut.now) c.args.certificate.now c.at.result (reason_at c.loop-reason.reason-index) (place_shown c.in-Some.spot) c.at.ensures

pub returns-in-Some-clause-stays_settled : goal.returns-in-Some-clause-stays_settled
returns-in-Some-clause-stays_settled c =
    calm_of_none (tables_of c.args.cut.now) c.args.certificate.now c.at.result (reason_at c.loop-reason.reason-index) (place_shown c.in-Some.spot) c.at.ensures

pub returns-clause-stays_put : goal.returns-clause-stays_put
returns-clause-stays_put c = λ _. c.settled_stays_put.ensures (tables_of c.args.cut.now) c.args.certificate.now (returns-clause-verdict c)

pub returns-clause-stays_settled : goal.returns-clause-stays_settled
returns-clause-stays_settled c = λ _. c.settled_stays_settled.ensures (tables_of c.args.cut.now) c.args.certificate.now (returns-clause-verdict c)
