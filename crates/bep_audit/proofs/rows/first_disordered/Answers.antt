use Rattle.std.proofs.Common.{refl, ◌∙◌, sym, arith}
use Rattle.bep_audit.proofs.RowsFacts.{ends, stops}
use Rattle.bep_audit.proofs.rows.first_disordered.Goals as goal

pub returns-clause-first : goal.returns-clause-first
returns-clause-first c = ends c.args.rows.now c.loop-place.place (omega arith) (omega arith) c.loop-place.invariant

pub returns-clause-rise : goal.returns-clause-rise
returns-clause-rise c =
    let none = ends c.args.rows.now c.loop-place.place (omega arith) (omega arith) c.loop-place.invariant in
    (λ _. (c.rows_rise_in_order.ensures c.args.rows.now).0 (sym none), λ _. refl)

pub returns-then-not-is_lt-clause-rise : goal.returns-then-not-is_lt-clause-rise
returns-then-not-is_lt-clause-rise c =
    let some = stops c.args.rows.now c.loop-place.place c.index-rows-place.result c.index-rows-place-in-loop-place.result (omega arith) (omega arith) c.index-rows-place.is c.index-rows-place-in-loop-place.is (cc) c.loop-place.invariant in
    (λ e. absurd (cc), λ rise. let both = some ∙ (c.rows_rise_in_order.ensures c.args.rows.now).1 rise in cc)
