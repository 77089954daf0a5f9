use Rattle.std.proofs.Common.{◌≡◌, ◌≤◌, List, [], length, take, drop, map, Some, None, sym, ap, subst, arith}
use Rattle.bep_model.specs.Reasons.{Place}
use Rattle.bep_audit.specs.Shown.{place_shown}
use Rattle.bep_audit.specs.inner.Walk.{count_at}
use Rattle.bep_audit.proofs.GroupWalk.{group_at, within_at, rest_is, next_at}
use Rattle.bep_audit.proofs.WonWalk.{Won, won_starts, won_ends, won_goes_on_at, won_shorter_at}
use Rattle.bep_audit.proofs.certifier.winners_among.Goals as goal

pub loop-folder-init : goal.loop-folder-init
loop-folder-init c = (
  omega arith,
  subst (λ (places : List Place). Won c.args.cut.now c.args.table.now c.new-rows.result.items places) (sym (ap (map place_shown) c.new-without.ensures.items))
      (subst (λ rows. Won c.args.cut.now c.args.table.now rows []) (sym c.new-rows.ensures.items)
      (won_starts c.args.cut.now c.entries_are_held.ensures.held c.entries_are_held.ensures.shares c.is_a_cut.ensures c.args.table.now c.requires)),
)

pub add_name-requires : goal.add_name-requires
add_name-requires c =
    group_at c.args.cut.now [] c.args.table.now c.loop-folder.at 0 c.loop-folder.invariant.1.stands
    (c.in-Some.folder.now, c.in-Some.name.now) (next_at c.args.table.now [] c.loop-folder.at 0 (Some (c.in-Some.folder.now, c.in-Some.name.now)) c.in-Some.ensures) c.entries_at-group.result.now
    (subst (λ es. c.entries_at-group.result.now ≡ take (count_at (c.in-Some.folder.now, c.in-Some.name.now) es) es) (rest_is c.args.table.now c.loop-folder.at) c.entries_at-group.ensures.front)

pub loop-folder-smaller : goal.loop-folder-smaller
loop-folder-smaller c =
    won_shorter_at c.args.cut.now c.args.table.now c.loop-folder.at c.loop-folder.rows.items (map place_shown c.loop-folder.without.items) c.loop-folder.invariant.1 (c.in-Some.folder.now, c.in-Some.name.now)
    (next_at c.args.table.now [] c.loop-folder.at 0 (Some (c.in-Some.folder.now, c.in-Some.name.now)) c.in-Some.ensures) (length c.entries_at-group.result.now)
    (subst (λ es. length c.entries_at-group.result.now ≡ count_at (c.in-Some.folder.now, c.in-Some.name.now) es) (rest_is c.args.table.now c.loop-folder.at) c.entries_at-group.ensures.count)

pub loop-folder-preserved : goal.loop-folder-preserved
loop-folder-preserved c = (
  within_at c.args.table.now c.loop-folder.at (length c.entries_at-group.result.now) c.loop-folder.invariant.0
      (subst (λ es. length c.entries_at-group.result.now ≤ length es) (rest_is c.args.table.now c.loop-folder.at) c.entries_at-group.ensures.within),
  won_goes_on_at c.args.cut.now c.args.table.now c.loop-folder.at c.loop-folder.rows.items (map place_shown c.loop-folder.without.items) c.loop-folder.invariant.1 (c.in-Some.folder.now, c.in-Some.name.now)
      (next_at c.args.table.now [] c.loop-folder.at 0 (Some (c.in-Some.folder.now, c.in-Some.name.now)) c.in-Some.ensures) (length c.entries_at-group.result.now)
      (subst (λ es. length c.entries_at-group.result.now ≡ count_at (c.in-Some.folder.now, c.in-Some.name.now) es) (rest_is c.args.table.now c.loop-folder.at) c.entries_at-group.ensures.count)
      c.add_name.new.rows.items (map place_shown c.add_name.new.without.items) c.in_ok-add_name.ensures,
)

pub returns : goal.returns
returns c =
    won_ends c.args.cut.now (drop c.loop-folder.at c.args.table.now) c.loop-folder.rows.items (map place_shown c.loop-folder.without.items) c.loop-folder.invariant.1
    (next_at c.args.table.now [] c.loop-folder.at 0 None c.in_default.ensures)
