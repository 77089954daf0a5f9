use Rattle.std.proofs.Common.{◌≡◌}
use Rattle.bep_record.specs.Content.{content_of}
use Rattle.bep_model.specs.declared.row.Row.{Row}
use Rattle.bep_explain.specs.inner.Rows.{row_shown}
use Rattle.bep_explain.specs.declared.rows.NamedRow.{NamedRow}
use Rattle.bep_explain.proofs.RowLists.{so_far_goes_on, so_far_ends, of_each_row}
use Rattle.bep_explain.proofs.rows.other_content.Goals as goal

pub loop-one-preserved : goal.loop-one-preserved
loop-one-preserved c =
    so_far_goes_on (λ (one : NamedRow). content_of (row_shown one).entry ≡ content_of c.args.row.now.entry) c.args.rows.now c.loop-one.one-index c.one-item.result
    c.loop-one-test.true c.one-item.is c.loop-one.invariant (c.same_content.ensures.0 c.if-not-same_content.false)

pub returns-clause-none : goal.returns-clause-none
returns-clause-none c =
    let content = content_of c.args.row.now.entry in
    of_each_row (λ (row : Row). content_of row.entry ≡ content) c.args.rows.now
    (so_far_ends (λ (one : NamedRow). content_of (row_shown one).entry ≡ content) c.args.rows.now c.loop-one.one-index c.loop-one-test.false c.loop-one.invariant)
