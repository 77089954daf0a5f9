use Rattle.std.proofs.Common.{List, map, subst, sym, ap}
use Rattle.std.specs.List.Sorted.{IsSortedByKey}
use Rattle.bep_model.specs.Settled.{key_cmp}
use Rattle.bep_tables.specs.declared.table.entry.TableEntry.{TableEntry}
use Rattle.bep_tables.specs.Cut.{tables_of}
use Rattle.bep_tables.specs.Listed.{cut_listed, listed, IsGrouped}
use Rattle.bep_audit.specs.Loose.{Loosening, loose_shown, AsksEntry}
use Rattle.bep_gather.specs.Adding.{AddsFailing, Each}
use Rattle.bep_explain.specs.Loose.{IsFirmlyMet}
use Rattle.bep_explain.specs.inner.Rows.{AreSorted, named_key, row_shown}
use Rattle.bep_gather.specs.AddFacts.{adds_as}
use Rattle.bep_explain.proofs.LooseFacts.{entries_ask, same_asked}
use Rattle.bep_explain.proofs.loose.gathered.Goals as goal

pub add_entries-requires : goal.add_entries-requires
add_entries-requires c = subst (IsSortedByKey named_key key_cmp) (sym c.as_slice.ensures.value) c.in_ok-sorted.ensures.in_order

pub returns : goal.returns
returns c =
    let cut = c.args.cut.now in
    let rows = c.args.rows.now in
    let entries = c.entries.result.now in
    let sorted = map row_shown c.as_slice.result.now in
    let none = map loose_shown c.new-found.result.items in
    let new = map loose_shown c.add_entries.new.found.items in
    let grouped = subst (IsGrouped (cut_listed cut)) (sym c.entries.ensures) c.in_ok-table.ensures in
    let are = subst (AreSorted rows) (sym c.as_slice.ensures.value) c.in_ok-sorted.ensures in
    let asked = λ (loose : Loosening). c.entries_are_asked.ensures cut entries rows loose c.is_a_cut.ensures grouped in
    let same = λ (loose : Loosening) (entry : TableEntry). same_asked rows (listed entry) sorted are.same loose in
    subst (λ (old : List Loosening). AddsFailing (IsFirmlyMet (tables_of cut) rows) old new) (ap (map loose_shown) c.new-found.ensures.items)
    (adds_as (Each (λ (entry : TableEntry). AsksEntry sorted (listed entry)) entries) (IsFirmlyMet (tables_of cut) rows) none new
    (λ loose. (
      λ each. (asked loose).0 ((entries_ask rows entries loose).0 (λ entry member. (same loose entry).0 (each entry member))),
      λ met entry member. (same loose entry).1 ((entries_ask rows entries loose).1 ((asked loose).1 met) entry member),
    ))
    c.in_ok-add_entries.ensures)
