use Rattle.std.proofs.Common.{drop, map}
use Rattle.std.specs.List.{AllByRecursion}
use Rattle.json.specs.Written.{Written}
use Rattle.serde_json.specs.View.{items_of}
use Rattle.bep_json.specs.Added.{AddsItems}
use Rattle.bep_cut_document.proofs.writing.add_list.Given as goal

-- once the items that are left are written too, all are; where those are told and sound, all are
abbrev pub invariant-loop-item : goal.invariant-loop-item
invariant-loop-item g l = record {
  value : (end : Written) → AddsItems (items_of (map g.T.Written.tree_of (drop l.item-index l.items))) l.out end → AddsItems (items_of (map g.T.Written.tree_of l.items)) l.initial.out end;
  told : AllByRecursion g.T.Written.is_told (drop l.item-index l.items) → AllByRecursion g.T.Written.is_told l.items;
  sound : AllByRecursion g.T.Written.is_sound (drop l.item-index l.items) → AllByRecursion g.T.Written.is_sound l.items;
}
