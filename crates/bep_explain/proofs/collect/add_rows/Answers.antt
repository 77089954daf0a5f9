use Rattle.std.proofs.Common.{◌++◌, List, map, length, take, sym, subst}
use Rattle.bep_model.specs.declared.row.Row.{Row}
use Rattle.bep_audit.specs.Walk.{Failure, failure_shown}
use Rattle.bep_gather.specs.Adding.{AddsFailing, Each}
use Rattle.bep_explain.specs.inner.Rows.{row_shown}
use Rattle.bep_explain.specs.inner.Says.{SaysAtRow}
use Rattle.bep_gather.specs.AddFacts.{adds_both, adds_as}
use Rattle.bep_explain.proofs.RowLists.{each_append, with_front, within_left}
use Rattle.bep_explain.proofs.collect.add_rows.Goals as goal

pub loop-place-preserved : goal.loop-place-preserved
loop-place-preserved c =
    let Says = SaysAtRow c.args.cut.now in
    let rows = c.args.rows.now in
    let place = c.loop-place.place in
    let front = c.alike_at-alike.result.now in
    let before = map row_shown (take place rows) in
    let here = map row_shown front in
    let old = map failure_shown c.args.found.now.items in
    let middle = map failure_shown c.loop-place.found.items in
    let new = map failure_shown c.add_alike.new.found.items in (
      within_left rows place (length front) c.loop-place-test.true c.alike_at-alike.ensures.within,
      subst (λ (all : List Row). AddsFailing (Each Says all) old new) (sym (with_front rows front place c.alike_at-alike.ensures.front))
          (adds_as (λ (one : Failure). Each Says before one × Each Says here one) (Each Says (before ++ here)) old new (each_append Says before here)
          (adds_both (Each Says before) (Each Says here) old middle new c.loop-place.invariant.1 c.in_ok-add_alike.ensures)),
    )
