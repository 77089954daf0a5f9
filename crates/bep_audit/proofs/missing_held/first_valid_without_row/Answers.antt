use Rattle.std.proofs.Common.{Some, None, ◌∙◌, sym, true≢false}
use Rattle.bep_audit.proofs.MissingFacts.{SaysRowIfValid, all_are_left, next_is_left, first_is_found, none_is_found, found_among_valid}
use Rattle.bep_audit.proofs.missing_held.first_valid_without_row.Goals as goal

pub loop-name-init : goal.loop-name-init
loop-name-init c =
    all_are_left (SaysRowIfValid c.args.rows.now c.args.folder.now) c.args.records.now c.into_iter-name-iterator.result
    (c.into_iter-name-iterator.ensures.into_iter_gives ∙ c.iter-name-items.ensures)

pub loop-name-preserved : goal.loop-name-preserved
loop-name-preserved c =
    next_is_left (SaysRowIfValid c.args.rows.now c.args.folder.now) c.args.records.now c.loop-name.name-iterator c.next.new.self (c.in-Some.name.now, c.in-Some.found.now)
    c.in-Some.ensures.steps c.loop-name.invariant (c.has_row_if_valid.ensures.0 c.if-not-has_row_if_valid.false)

pub returns-then-not-has_row_if_valid : goal.returns-then-not-has_row_if_valid
returns-then-not-has_row_if_valid c =
    found_among_valid c.args.rows.now c.args.folder.now c.args.records.now (Some c.in-Some.name.now)
    (first_is_found (SaysRowIfValid c.args.rows.now c.args.folder.now) c.args.records.now c.loop-name.name-iterator c.next.new.self (c.in-Some.name.now, c.in-Some.found.now)
    c.in-Some.ensures.steps c.loop-name.invariant (λ has. true≢false (sym (c.has_row_if_valid.ensures.1 has) ∙ c.if-not-has_row_if_valid.true)))

pub returns : goal.returns
returns c =
    found_among_valid c.args.rows.now c.args.folder.now c.args.records.now None
    (none_is_found (SaysRowIfValid c.args.rows.now c.args.folder.now) c.args.records.now c.loop-name.name-iterator c.in-None.ensures.steps.0 c.loop-name.invariant)
