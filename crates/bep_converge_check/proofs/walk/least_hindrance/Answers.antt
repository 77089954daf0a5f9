use Rattle.std.proofs.Common.{◌≡◌, ◌≤◌, [], cond, option_map, length, take, drop, Some, None, sym, ap, subst, ◌∙◌, arith}
use Rattle.std.proofs.lemmas.Bool.{cond-true, cond-false}
use Rattle.bep_audit.specs.inner.Walk.{count_at}
use Rattle.bep_audit.proofs.GroupWalk.{group_at, within_at, rest_is, next_at}
use Rattle.bep_converge_check.specs.Hindrance.{hinder_shown, precedes}
use Rattle.bep_converge_check.proofs.HinderWalk.{hinder_starts, hinder_ends, goes_on_at, shorter_at}
use Rattle.bep_converge_check.proofs.walk.least_hindrance.Goals as goal
use Rattle.bep_converge_check.proofs.walk.least_hindrance.Goals.{then-precedes, else-precedes}

pub loop-folder-init : goal.loop-folder-init
loop-folder-init c =
    (omega arith, hinder_starts c.args.cut.now c.entries_are_held.ensures.held c.entries_are_held.ensures.shares c.is_a_cut.ensures c.args.table.now c.requires)

pub hindrance_at-requires : goal.hindrance_at-requires
hindrance_at-requires c =
    group_at c.args.cut.now [] c.args.table.now c.loop-folder.at 0 c.loop-folder.invariant.1.stands
    (c.in-Some.folder.now, c.in-Some.name.now) (next_at c.args.table.now [] c.loop-folder.at 0 (Some (c.in-Some.folder.now, c.in-Some.name.now)) c.in-Some.ensures) c.entries_at-group.result.now
    (subst (λ es. c.entries_at-group.result.now ≡ take (count_at (c.in-Some.folder.now, c.in-Some.name.now) es) es) (rest_is c.args.table.now c.loop-folder.at) c.entries_at-group.ensures.front)

pub loop-folder-smaller : goal.loop-folder-smaller
loop-folder-smaller c =
    shorter_at c.args.cut.now c.args.table.now c.loop-folder.at (option_map hinder_shown c.loop-folder.least) c.loop-folder.invariant.1 (c.in-Some.folder.now, c.in-Some.name.now)
    (next_at c.args.table.now [] c.loop-folder.at 0 (Some (c.in-Some.folder.now, c.in-Some.name.now)) c.in-Some.ensures) (length c.entries_at-group.result.now)
    (subst (λ es. length c.entries_at-group.result.now ≡ count_at (c.in-Some.folder.now, c.in-Some.name.now) es) (rest_is c.args.table.now c.loop-folder.at) c.entries_at-group.ensures.count)

pub loop-folder-preserved : goal.loop-folder-preserved
loop-folder-preserved c =
    let chosen : option_map hinder_shown c.if-precedes.least ≡ cond (precedes (option_map hinder_shown c.in-Ok.here) (option_map hinder_shown c.loop-folder.least)) (option_map hinder_shown c.in-Ok.here) (option_map hinder_shown c.loop-folder.least) =
    elim c.if-precedes.branch [
      | then-precedes w ↦ ap (option_map hinder_shown) w.least-is ∙ sym (cond-true _ _ _ (sym c.precedes.ensures ∙ w.if-precedes.true))
      | else-precedes w ↦ ap (option_map hinder_shown) w.least-is ∙ sym (cond-false _ _ _ (sym c.precedes.ensures ∙ w.if-precedes.false))
    ] in (
      within_at c.args.table.now c.loop-folder.at (length c.entries_at-group.result.now) c.loop-folder.invariant.0
          (subst (λ es. length c.entries_at-group.result.now ≤ length es) (rest_is c.args.table.now c.loop-folder.at) c.entries_at-group.ensures.within),
      goes_on_at c.args.cut.now c.args.table.now c.loop-folder.at (option_map hinder_shown c.loop-folder.least) c.loop-folder.invariant.1 (c.in-Some.folder.now, c.in-Some.name.now)
          (next_at c.args.table.now [] c.loop-folder.at 0 (Some (c.in-Some.folder.now, c.in-Some.name.now)) c.in-Some.ensures) (length c.entries_at-group.result.now)
          (subst (λ es. length c.entries_at-group.result.now ≡ count_at (c.in-Some.folder.now, c.in-Some.name.now) es) (rest_is c.args.table.now c.loop-folder.at) c.entries_at-group.ensures.count)
          (option_map hinder_shown c.in-Ok.here) c.in-Ok.ensures (option_map hinder_shown c.if-precedes.least) chosen,
    )

pub returns : goal.returns
returns c =
    hinder_ends c.args.cut.now (drop c.loop-folder.at c.args.table.now) (option_map hinder_shown c.loop-folder.least) c.loop-folder.invariant.1
    (next_at c.args.table.now [] c.loop-folder.at 0 None c.in_default.ensures)
