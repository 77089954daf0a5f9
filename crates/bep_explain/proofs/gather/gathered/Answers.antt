use Rattle.std.proofs.Common.{List, map, subst, sym, ap}
use Rattle.std.specs.List.Sorted.{IsSortedByKey}
use Rattle.bep_model.specs.Settled.{key_cmp}
use Rattle.bep_tables.specs.Cut.{tables_of}
use Rattle.bep_tables.specs.Listed.{cut_listed, IsGrouped}
use Rattle.bep_audit.specs.Walk.{Failure, failure_shown}
use Rattle.bep_gather.specs.Adding.{AddsFailing, Each}
use Rattle.bep_explain.specs.Found.{IsMet}
use Rattle.bep_explain.specs.inner.Rows.{AreSorted, named_key, row_shown}
use Rattle.bep_explain.specs.inner.Says.{SaysOrder, SaysHasRow, SaysAtRow}
use Rattle.bep_gather.specs.AddFacts.{adds_both, adds_as}
use Rattle.bep_explain.proofs.Gathered.{SortedSay, sorted_exactly}
use Rattle.bep_explain.proofs.gather.gathered.Goals as goal

pub add_missing-requires : goal.add_missing-requires
add_missing-requires c = subst (IsSortedByKey named_key key_cmp) (sym c.as_slice-sorted.ensures.value) c.in_ok-by_name.ensures.in_order

pub add_rows-requires : goal.add_rows-requires
add_rows-requires c = subst (IsGrouped (cut_listed c.args.cut.now)) (sym c.entries-entries.ensures) c.in_ok-table.ensures

pub returns : goal.returns
returns c =
    let cut = c.args.cut.now in
    let t = tables_of cut in
    let rows = c.args.rows.now in
    let entries = c.entries-entries.result.now in
    let sorted = map row_shown c.as_slice-sorted.result.now in
    let none = map failure_shown c.new-found.result.items in
    let first = map failure_shown c.add_out_of_order.new.found.items in
    let second = map failure_shown c.add_missing.new.found.items in
    let new = map failure_shown c.add_rows.new.found.items in
    let is_cut = c.is_a_cut.ensures in
    let grouped = subst (IsGrouped (cut_listed cut)) (sym c.entries-entries.ensures) c.in_ok-table.ensures in
    let are = subst (AreSorted rows) (sym c.as_slice-sorted.ensures.value) c.in_ok-by_name.ensures in
    let all = adds_both (λ (one : Failure). SaysOrder rows one × Each (SaysHasRow sorted) entries one) (Each (SaysAtRow cut) sorted) none second new
    (adds_both (SaysOrder rows) (Each (SaysHasRow sorted) entries) none first second c.in_ok-add_out_of_order.ensures c.in_ok-add_missing.ensures) c.in_ok-add_rows.ensures in
    subst (λ (old : List Failure). AddsFailing (IsMet t rows) old new) (ap (map failure_shown) c.new-found.ensures.items)
    (adds_as (SortedSay cut is_cut rows entries sorted) (IsMet t rows) none new
    (sorted_exactly cut is_cut rows entries sorted are.same c.entries_are_held.ensures.held c.entries_are_held.ensures.shares c.group_says.ensures.known grouped c.cut_says.ensures.sharing) all)
