use Rattle.std.proofs.Common.{map}
use Rattle.std.specs.FinMap.{entries}
use Rattle.std.specs.List.{AllByRecursion}
use Rattle.json.specs.Written.{Written}
use Rattle.serde_json.specs.View.{items_of}
use Rattle.bep_json.specs.Added.{AddsItems}
use Rattle.bep_json.specs.Written.{node_written}
use Rattle.bep_record.specs.Node.{IsNode}
use Rattle.bep_cut_document.specs.inner.Told.{IsNodeTold}
use Rattle.bep_cut_document.proofs.writing.add_nodes.Given as goal

-- once the nodes that are left are written too, all are; where those are told and sound, all are
abbrev pub invariant-loop-held : goal.invariant-loop-held
invariant-loop-held l = record {
  value : (end : Written) → AddsItems (items_of (map (λ held. node_written held.0 held.1) l.held-iterator)) l.out end → AddsItems (items_of (map (λ held. node_written held.0 held.1) (entries l.nodes))) l.initial.out end;
  told : AllByRecursion IsNodeTold l.held-iterator → AllByRecursion IsNodeTold (entries l.nodes);
  sound : AllByRecursion (λ held. IsNode held.1) l.held-iterator → AllByRecursion (λ held. IsNode held.1) (entries l.nodes);
}
