use Rattle.std.proofs.Common.{◌≡◌, ◌↔◌, ◌≤◌, ◌+◌, List, [], Contains, length, map, take, drop, Some, None, sym, ap, subst, arith}
use Rattle.bep_tables.specs.declared.table.entry.TableEntry.{TableEntry}
use Rattle.bep_tables.specs.Cut.{tables_of}
use Rattle.bep_tables.specs.Listed.{AreInOrder, listed}
use Rattle.bep_audit.specs.inner.Walk.{next_key, count_at}
use Rattle.bep_audit.proofs.GroupWalk.{group_at, within_at, rest_is, next_at}
use Rattle.bep_audit.proofs.NameWalk.{Key}
use Rattle.bep_converge_check.specs.Progress.{IsToCome, IsThere}
use Rattle.bep_converge_check.proofs.SoManyFacts.{all_others}
use Rattle.bep_converge_check.proofs.ProgressFacts.{walk_starts, known_next, walk_goes_on, left_at, smaller_at, some_past, names_end, deleted_ends, to_come_ends, devices_counted}
use Rattle.bep_converge_check.proofs.progress.progress_of.Goals as goal

pub part_of-entries-requires : goal.part_of-entries-requires
part_of-entries-requires c = subst (λ (table : List TableEntry). AreInOrder (map listed table)) (sym c.entries.ensures) c.requires.in_order

pub loop-other-init : goal.loop-other-init
loop-other-init c = record {
  within = omega arith;
  few_names = omega arith;
  few_deleted = omega arith;
  few_pairs = omega arith;
  walked = walk_starts c.args.cut.now c.args.folder.now c.entries_are_held.ensures.held c.entries_are_held.ensures.shares c.shares-devices.ensures.a_cut c.args.table.now c.part_of-entries.result.now
      c.requires c.part_of-entries.ensures.in_order
      (subst (λ (table : List TableEntry). (one : TableEntry) → Contains c.part_of-entries.result.now one ↔ (Contains table one × (one.folder.now ≡ c.args.folder.now))) c.entries.ensures c.part_of-entries.ensures.all);
}

pub to_come_at-to_come-requires : goal.to_come_at-to_come-requires
to_come_at-to_come-requires c =
    let table = c.part_of-entries.result.now in
    let at = c.loop-other.at in
    let key : Key = (c.in-Some.other.now, c.in-Some.name.now) in
    let is : next_key (drop at table) [] ≡ Some key = next_at table [] at 0 (Some key) c.in-Some.ensures in
    record {
      group = group_at c.args.cut.now [] table at 0 c.loop-other.invariant.walked.stands key is c.entries_at-group.result.now
          (subst (λ (es : List TableEntry). c.entries_at-group.result.now ≡ take (count_at key es) es) (rest_is table at) c.entries_at-group.ensures.front);
      known = known_next c.args.cut.now c.args.folder.now (drop at table) c.loop-other.names c.loop-other.deleted c.loop-other.to_come c.loop-other.invariant.walked key is
          c.entries_are_held.ensures.held c.entries_are_held.ensures.shares c.shares-devices.ensures.a_cut;
    }

pub deleted_at-deleted-requires : goal.deleted_at-deleted-requires
deleted_at-deleted-requires c =
    let table = c.part_of-entries.result.now in
    let at = c.loop-other.at in
    let key : Key = (c.in-Some.other.now, c.in-Some.name.now) in
    known_next c.args.cut.now c.args.folder.now (drop at table) c.loop-other.names c.loop-other.deleted c.loop-other.to_come c.loop-other.invariant.walked key
    (next_at table [] at 0 (Some key) c.in-Some.ensures) c.entries_are_held.ensures.held c.entries_are_held.ensures.shares c.shares-devices.ensures.a_cut

pub loop-other-smaller : goal.loop-other-smaller
loop-other-smaller c =
    let table = c.part_of-entries.result.now in
    let at = c.loop-other.at in
    let key : Key = (c.in-Some.other.now, c.in-Some.name.now) in
    smaller_at c.args.cut.now c.args.folder.now table at c.loop-other.names c.loop-other.deleted c.loop-other.to_come c.loop-other.invariant.walked key
    (next_at table [] at 0 (Some key) c.in-Some.ensures) (length c.entries_at-group.result.now)
    (subst (λ (es : List TableEntry). length c.entries_at-group.result.now ≡ count_at key es) (rest_is table at) c.entries_at-group.ensures.count)

pub loop-other-preserved : goal.loop-other-preserved
loop-other-preserved c =
    let table = c.part_of-entries.result.now in
    let at = c.loop-other.at in
    let walked = c.loop-other.invariant.walked in
    let key : Key = (c.in-Some.other.now, c.in-Some.name.now) in
    let is : next_key (drop at table) [] ≡ Some key = next_at table [] at 0 (Some key) c.in-Some.ensures in
    let n = length c.entries_at-group.result.now in
    let held : n ≡ count_at key (drop at table) = subst (λ (es : List TableEntry). n ≡ count_at key es) (rest_is table at) c.entries_at-group.ensures.count in
    let known = known_next c.args.cut.now c.args.folder.now (drop at table) c.loop-other.names c.loop-other.deleted c.loop-other.to_come walked key is
    c.entries_are_held.ensures.held c.entries_are_held.ensures.shares c.shares-devices.ensures.a_cut in
    let past : 1 ≤ n = some_past c.args.cut.now c.args.folder.now table at c.loop-other.names c.loop-other.deleted c.loop-other.to_come walked key is n held in
    let few = c.names_at-names.ensures.few in
    let few_deleted = c.deleted_at-deleted.ensures.few in
    let most = c.to_come_at-to_come.ensures.few in
    let names = c.loop-other.invariant.few_names in
    let deleted = c.loop-other.invariant.few_deleted in
    let pairs = c.loop-other.invariant.few_pairs in
    record {
      within = within_at table at n c.loop-other.invariant.within (subst (λ (es : List TableEntry). n ≤ length es) (rest_is table at) c.entries_at-group.ensures.within);
      few_names = omega (arith, past, few, names);
      few_deleted = omega (arith, past, few_deleted, deleted);
      few_pairs = omega (arith, past, most, pairs);
      walked = left_at c.args.cut.now c.args.folder.now table at c.loop-other.names c.loop-other.deleted c.loop-other.to_come walked key is n held
          (c.loop-other.names + c.names_at-names.result) (c.loop-other.deleted + c.deleted_at-deleted.result) (c.loop-other.to_come + c.to_come_at-to_come.result)
          (walk_goes_on c.args.cut.now c.args.folder.now (drop at table) c.loop-other.names c.loop-other.deleted c.loop-other.to_come walked key is known
          c.names_at-names.result c.deleted_at-deleted.result c.to_come_at-to_come.result
          c.names_at-names.ensures.count c.deleted_at-deleted.ensures.count c.to_come_at-to_come.ensures.count);
    }

pub returns-clause-progress : goal.returns-clause-progress
returns-clause-progress c =
    let table = c.part_of-entries.result.now in
    let at = c.loop-other.at in
    let none : next_key (drop at table) [] ≡ None = next_at table [] at 0 None c.in_default.ensures in
    record {
      names = names_end c.args.cut.now c.args.folder.now (drop at table) c.loop-other.names c.loop-other.deleted c.loop-other.to_come c.loop-other.invariant.walked none;
      deleted = deleted_ends c.args.cut.now c.args.folder.now (drop at table) c.loop-other.names c.loop-other.deleted c.loop-other.to_come c.loop-other.invariant.walked none;
      devices = devices_counted c.cut_says.ensures c.args.cut.now c.shares-devices.ensures.a_cut c.args.folder.now (length c.shares-devices.result.now) (ap length c.shares-devices.ensures.value);
      to_come = to_come_ends c.args.cut.now c.args.folder.now (drop at table) c.loop-other.names c.loop-other.deleted c.loop-other.to_come c.loop-other.invariant.walked none;
    }

pub returns-clause-at_winners : goal.returns-clause-at_winners
returns-clause-at_winners c = λ zero name device known shares.
    let t = tables_of c.args.cut.now in
    let table = c.part_of-entries.result.now in
    let none : next_key (drop c.loop-other.at table) [] ≡ None = next_at table [] c.loop-other.at 0 None c.in_default.ensures in
    all_others (IsToCome t c.args.folder.now) (IsThere t c.args.folder.now) c.loop-other.to_come
    (to_come_ends c.args.cut.now c.args.folder.now (drop c.loop-other.at table) c.loop-other.names c.loop-other.deleted c.loop-other.to_come c.loop-other.invariant.walked none)
    zero (name, device) known shares
