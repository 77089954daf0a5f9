use Rattle.std.proofs.Common.{◌≡◌, ◌≤◌, cond, option_map, length, take, drop, Some, None, sym, ap, subst, ◌∙◌, arith}
use Rattle.std.proofs.lemmas.Bool.{cond-true, cond-false}
use Rattle.bep_audit.specs.Walk.{failure_shown}
use Rattle.bep_audit.specs.inner.Walk.{count_at, rows_about, replaces}
use Rattle.bep_audit.proofs.GroupWalk.{group_at, about_at, smaller_at, within_at, rest_is, next_at}
use Rattle.bep_audit.proofs.LeastWalk.{least_starts, least_ends, goes_on_at}
use Rattle.bep_audit.proofs.walk.least_failure.Goals as goal
use Rattle.bep_audit.proofs.walk.least_failure.Goals.{then-replaces, else-replaces}

pub loop-folder-init : goal.loop-folder-init
loop-folder-init c =
    (omega arith, omega arith, least_starts c.args.cut.now c.args.rows.now c.entries_are_held.ensures.held c.entries_are_held.ensures.shares c.rows_rise_in_order.ensures c.is_a_cut.ensures c.requires.rise c.args.table.now c.requires.table)

pub failure_at-here-requires-clause-group : goal.failure_at-here-requires-clause-group
failure_at-here-requires-clause-group c =
    group_at c.args.cut.now c.args.rows.now c.args.table.now c.loop-folder.at c.loop-folder.place c.loop-folder.invariant.2.stands
    (c.in-Some.folder.now, c.in-Some.name.now) (next_at c.args.table.now c.args.rows.now c.loop-folder.at c.loop-folder.place (Some (c.in-Some.folder.now, c.in-Some.name.now)) c.in-Some.ensures) c.entries_at-group.result.now
    (subst (λ es. c.entries_at-group.result.now ≡ take (count_at (c.in-Some.folder.now, c.in-Some.name.now) es) es) (rest_is c.args.table.now c.loop-folder.at) c.entries_at-group.ensures.front)

pub failure_at-here-requires-clause-about : goal.failure_at-here-requires-clause-about
failure_at-here-requires-clause-about c =
    about_at c.args.cut.now c.args.rows.now c.args.table.now c.loop-folder.at c.loop-folder.place c.loop-folder.invariant.2.stands
    (c.in-Some.folder.now, c.in-Some.name.now) (next_at c.args.table.now c.args.rows.now c.loop-folder.at c.loop-folder.place (Some (c.in-Some.folder.now, c.in-Some.name.now)) c.in-Some.ensures) c.rows_at-about.result.now
    (subst (λ rs. c.rows_at-about.result.now ≡ take (rows_about (c.in-Some.folder.now, c.in-Some.name.now) rs) rs) (rest_is c.args.rows.now c.loop-folder.place) c.rows_at-about.ensures.front)

pub loop-folder-smaller : goal.loop-folder-smaller
loop-folder-smaller c =
    smaller_at c.args.cut.now c.args.rows.now c.args.table.now c.loop-folder.at c.loop-folder.place c.loop-folder.invariant.2.stands
    (c.in-Some.folder.now, c.in-Some.name.now) (next_at c.args.table.now c.args.rows.now c.loop-folder.at c.loop-folder.place (Some (c.in-Some.folder.now, c.in-Some.name.now)) c.in-Some.ensures) (length c.entries_at-group.result.now) (length c.rows_at-about.result.now)
    (subst (λ es. length c.entries_at-group.result.now ≡ count_at (c.in-Some.folder.now, c.in-Some.name.now) es) (rest_is c.args.table.now c.loop-folder.at) c.entries_at-group.ensures.count)
    (subst (λ rs. length c.rows_at-about.result.now ≡ rows_about (c.in-Some.folder.now, c.in-Some.name.now) rs) (rest_is c.args.rows.now c.loop-folder.place) c.rows_at-about.ensures.count)

pub loop-folder-preserved : goal.loop-folder-preserved
loop-folder-preserved c =
    let chosen : option_map failure_shown c.if-replaces.least ≡ cond (replaces (option_map failure_shown c.failure_at-here.result) (option_map failure_shown c.loop-folder.least)) (option_map failure_shown c.failure_at-here.result) (option_map failure_shown c.loop-folder.least) =
    elim c.if-replaces.branch [
      | then-replaces w ↦ ap (option_map failure_shown) w.least-is ∙ sym (cond-true _ _ _ (sym c.replaces.ensures ∙ w.if-replaces.true))
      | else-replaces w ↦ ap (option_map failure_shown) w.least-is ∙ sym (cond-false _ _ _ (sym c.replaces.ensures ∙ w.if-replaces.false))
    ] in (
      within_at c.args.table.now c.loop-folder.at (length c.entries_at-group.result.now) c.loop-folder.invariant.0
          (subst (λ es. length c.entries_at-group.result.now ≤ length es) (rest_is c.args.table.now c.loop-folder.at) c.entries_at-group.ensures.within),
      within_at c.args.rows.now c.loop-folder.place (length c.rows_at-about.result.now) c.loop-folder.invariant.1
          (subst (λ rs. length c.rows_at-about.result.now ≤ length rs) (rest_is c.args.rows.now c.loop-folder.place) c.rows_at-about.ensures.within),
      goes_on_at c.args.cut.now c.args.rows.now c.args.table.now c.loop-folder.at c.loop-folder.place (option_map failure_shown c.loop-folder.least) c.loop-folder.invariant.2
          (c.in-Some.folder.now, c.in-Some.name.now) (next_at c.args.table.now c.args.rows.now c.loop-folder.at c.loop-folder.place (Some (c.in-Some.folder.now, c.in-Some.name.now)) c.in-Some.ensures) (length c.entries_at-group.result.now) (length c.rows_at-about.result.now)
          (subst (λ es. length c.entries_at-group.result.now ≡ count_at (c.in-Some.folder.now, c.in-Some.name.now) es) (rest_is c.args.table.now c.loop-folder.at) c.entries_at-group.ensures.count)
          (subst (λ rs. length c.rows_at-about.result.now ≡ rows_about (c.in-Some.folder.now, c.in-Some.name.now) rs) (rest_is c.args.rows.now c.loop-folder.place) c.rows_at-about.ensures.count)
          ((c.rows_rise_in_order.ensures c.args.rows.now).1 c.requires.rise) c.rows_at-about.result.now
          (subst (λ rs. c.rows_at-about.result.now ≡ take (rows_about (c.in-Some.folder.now, c.in-Some.name.now) rs) rs) (rest_is c.args.rows.now c.loop-folder.place) c.rows_at-about.ensures.front)
          (option_map failure_shown c.failure_at-here.result) c.failure_at-here.ensures (option_map failure_shown c.if-replaces.least) chosen,
    )

pub returns : goal.returns
returns c =
    least_ends c.args.cut.now c.args.rows.now (drop c.loop-folder.at c.args.table.now) (drop c.loop-folder.place c.args.rows.now) (option_map failure_shown c.loop-folder.least) c.loop-folder.invariant.2
    (next_at c.args.table.now c.args.rows.now c.loop-folder.at c.loop-folder.place None c.in_default.ensures)
