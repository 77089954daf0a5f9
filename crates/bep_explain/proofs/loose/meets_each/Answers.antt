use Rattle.std.proofs.Common.{[], ◌∷◌, true≢false, refl, sym, ◌∙◌}
use Rattle.bep_tables.specs.Listed.{listed}
use Rattle.bep_audit.specs.Loose.{MeetsFirm}
use Rattle.bep_explain.specs.inner.Rows.{row_shown}
use Rattle.bep_explain.specs.declared.rows.NamedRow.{NamedRow}
use Rattle.bep_explain.proofs.RowLists.{item_is_there, so_far_goes_on, so_far_ends}
use Rattle.bep_explain.proofs.loose.meets_each.Goals as goal

pub loop-one-preserved : goal.loop-one-preserved
loop-one-preserved c =
    so_far_goes_on (λ (one : NamedRow). MeetsFirm (row_shown one ∷ []) (listed c.args.entry.now)) c.args.rows.now c.loop-one.one-index c.one-item.result
    c.loop-one-test.true c.one-item.is c.loop-one.invariant (c.meets_row.ensures.0 c.if-not-meets_row.false)

pub returns-then-not-meets_row : goal.returns-then-not-meets_row
returns-then-not-meets_row c =
    let there = item_is_there c.args.rows.now c.loop-one.one-index c.one-item.result c.loop-one-test.true c.one-item.is in
    (λ e. absurd (true≢false (sym e)), λ each. absurd (true≢false (sym (c.meets_row.ensures.1 (each c.one-item.result there)) ∙ c.if-not-meets_row.true)))

pub returns : goal.returns
returns c =
    let all = so_far_ends (λ (one : NamedRow). MeetsFirm (row_shown one ∷ []) (listed c.args.entry.now)) c.args.rows.now c.loop-one.one-index c.loop-one-test.false c.loop-one.invariant in
    (λ _. all, λ _. refl)
