use Rattle.std.proofs.Common.{◌≡◌, sym, subst, arith}
use Rattle.bep_facts.specs.Orders.{texts_exact}
use Rattle.bep_model.specs.Settled.{key_cmp}
use Rattle.bep_explain.specs.inner.Rows.{named_key}
use Rattle.bep_explain.specs.declared.rows.NamedRow.{NamedRow}
use Rattle.bep_explain.proofs.RowFacts.{tied_from_test}
use Rattle.bep_explain.proofs.RowLists.{SoFar, so_far_goes_on}
use Rattle.bep_explain.proofs.rows.count_alike.Goals as goal

pub loop-row-preserved : goal.loop-row-preserved
loop-row-preserved c =
    let first = named_key c.args.first.now in
    let here = named_key c.row-item.result in (
      omega arith,
      so_far_goes_on (λ (one : NamedRow). named_key one ≡ first) c.args.rows.now c.loop-row.row-index c.row-item.result c.loop-row-test.true c.row-item.is c.loop-row.invariant.1
          (texts_exact here first (tied_from_test c.compare_rows.result (key_cmp here first) c.is_eq.result c.compare_rows.ensures c.is_eq.ensures c.if-not-is_eq.false)),
    )

pub returns-then-not-is_eq-clause-alike : goal.returns-then-not-is_eq-clause-alike
returns-then-not-is_eq-clause-alike c =
    subst (SoFar (λ (one : NamedRow). named_key one ≡ named_key c.args.first.now) c.args.rows.now) (sym c.loop-row.invariant.0) c.loop-row.invariant.1

pub returns-clause-alike : goal.returns-clause-alike
returns-clause-alike c =
    subst (SoFar (λ (one : NamedRow). named_key one ≡ named_key c.args.first.now) c.args.rows.now) (sym c.loop-row.invariant.0) c.loop-row.invariant.1
