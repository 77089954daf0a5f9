use Rattle.std.proofs.Common.{Some, None, ◌∙◌, sym, true≢false}
use Rattle.bep_audit.proofs.MissingFacts.{SaysRow, all_are_left, next_is_left, first_is_found, none_is_found, found_among_names}
use Rattle.bep_audit.proofs.missing_held.first_without_row.Goals as goal

pub loop-name-init : goal.loop-name-init
loop-name-init g c =
    all_are_left (SaysRow c.args.rows.now c.args.folder.now) c.args.held.now c.into_iter-name-iterator.result
    (c.into_iter-name-iterator.ensures.into_iter_gives ∙ c.iter-name-items.ensures)

pub loop-name-preserved : goal.loop-name-preserved
loop-name-preserved g c =
    next_is_left (SaysRow c.args.rows.now c.args.folder.now) c.args.held.now c.loop-name.name-iterator c.next.new.self (c.in-Some.name.now, c.in-Some._value.now)
    c.in-Some.ensures.steps c.loop-name.invariant (c.find_row.ensures.has.0 c.if-is_none.ensures)

pub returns-then-is_none : goal.returns-then-is_none
returns-then-is_none g c =
    found_among_names c.args.rows.now c.args.folder.now c.args.held.now (Some c.in-Some.name.now)
    (first_is_found (SaysRow c.args.rows.now c.args.folder.now) c.args.held.now c.loop-name.name-iterator c.next.new.self (c.in-Some.name.now, c.in-Some._value.now)
    c.in-Some.ensures.steps c.loop-name.invariant (λ has. true≢false (sym (c.find_row.ensures.has.1 has) ∙ c.if-is_none.ensures)))

pub returns : goal.returns
returns g c =
    found_among_names c.args.rows.now c.args.folder.now c.args.held.now None
    (none_is_found (SaysRow c.args.rows.now c.args.folder.now) c.args.held.now c.loop-name.name-iterator c.in-None.ensures.steps.0 c.loop-name.invariant)
