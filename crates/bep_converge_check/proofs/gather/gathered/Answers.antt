use Rattle.std.proofs.Common.{◌≡◌, ◌≤◌, [], length, take, drop, map, None, Some, ap, subst, arith}
use Rattle.bep_audit.specs.inner.Walk.{count_at}
use Rattle.bep_audit.proofs.GroupWalk.{group_at, within_at, rest_is, next_at}
use Rattle.bep_converge_check.specs.Hindrance.{hinder_shown}
use Rattle.bep_converge_check.proofs.GatherWalk.{gather_starts, gather_ends, gather_goes_on_at, gather_shorter_at}
use Rattle.bep_converge_check.proofs.gather.gathered.Goals as goal

pub loop-folder-init : goal.loop-folder-init
loop-folder-init c = (
  omega arith,
  gather_starts c.args.cut.now c.entries_are_held.ensures.held c.entries_are_held.ensures.shares c.is_a_cut.ensures c.args.table.now c.requires
      (map hinder_shown c.new-found.result.items) (ap (map hinder_shown) c.new-found.ensures.items),
)

pub add_all_at-requires : goal.add_all_at-requires
add_all_at-requires c =
    group_at c.args.cut.now [] c.args.table.now c.loop-folder.at 0 c.loop-folder.invariant.1.stands
    (c.in-Some.folder.now, c.in-Some.name.now) (next_at c.args.table.now [] c.loop-folder.at 0 (Some (c.in-Some.folder.now, c.in-Some.name.now)) c.in-Some.ensures) c.entries_at-group.result.now
    (subst (λ es. c.entries_at-group.result.now ≡ take (count_at (c.in-Some.folder.now, c.in-Some.name.now) es) es) (rest_is c.args.table.now c.loop-folder.at) c.entries_at-group.ensures.front)

pub loop-folder-smaller : goal.loop-folder-smaller
loop-folder-smaller c =
    gather_shorter_at c.args.cut.now c.args.table.now c.loop-folder.at (map hinder_shown c.loop-folder.found.items) c.loop-folder.invariant.1 (c.in-Some.folder.now, c.in-Some.name.now)
    (next_at c.args.table.now [] c.loop-folder.at 0 (Some (c.in-Some.folder.now, c.in-Some.name.now)) c.in-Some.ensures) (length c.entries_at-group.result.now)
    (subst (λ es. length c.entries_at-group.result.now ≡ count_at (c.in-Some.folder.now, c.in-Some.name.now) es) (rest_is c.args.table.now c.loop-folder.at) c.entries_at-group.ensures.count)

pub loop-folder-preserved : goal.loop-folder-preserved
loop-folder-preserved c = (
  within_at c.args.table.now c.loop-folder.at (length c.entries_at-group.result.now) c.loop-folder.invariant.0
      (subst (λ es. length c.entries_at-group.result.now ≤ length es) (rest_is c.args.table.now c.loop-folder.at) c.entries_at-group.ensures.within),
  gather_goes_on_at c.args.cut.now c.args.table.now c.loop-folder.at (map hinder_shown c.loop-folder.found.items) c.loop-folder.invariant.1 (c.in-Some.folder.now, c.in-Some.name.now)
      (next_at c.args.table.now [] c.loop-folder.at 0 (Some (c.in-Some.folder.now, c.in-Some.name.now)) c.in-Some.ensures) (length c.entries_at-group.result.now)
      (subst (λ es. length c.entries_at-group.result.now ≡ count_at (c.in-Some.folder.now, c.in-Some.name.now) es) (rest_is c.args.table.now c.loop-folder.at) c.entries_at-group.ensures.count)
      (map hinder_shown c.add_all_at.new.found.items) c.in_ok-add_all_at.ensures,
)

pub returns : goal.returns
returns c =
    gather_ends c.args.cut.now (drop c.loop-folder.at c.args.table.now) (map hinder_shown c.loop-folder.found.items) c.loop-folder.invariant.1
    (next_at c.args.table.now [] c.loop-folder.at 0 None c.in_default.ensures)
