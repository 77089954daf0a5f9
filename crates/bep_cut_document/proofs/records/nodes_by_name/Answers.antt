use Rattle.std.proofs.Common.{◌∙◌, sym, ap, subst}
use Rattle.std.specs.List.{AllByRecursion}
use Rattle.bep_map.specs.NameMap.{ByName}
use Rattle.bep_record.specs.declared.node.NodeParts.{NodeParts}
use Rattle.bep_record.specs.Node.{IsNode}
use Rattle.bep_json.specs.declared.nodes.NamedParts.{NamedParts}
use Rattle.bep_document.specs.Faultless.{KeysDiffer}
use Rattle.bep_cut_document.specs.Written.{with_nodes}
use Rattle.bep_cut_document.proofs.LastFirst.{all_before, keys_before, node_first}
use Rattle.bep_cut_document.proofs.records.nodes_by_name.Goals as goal

pub put_node-requires : goal.put_node-requires
put_node-requires c =
    (all_before (λ (node : NamedParts). IsNode node.parts) c.pop.new.self.items c.in-Some.node (subst (AllByRecursion (λ (node : NamedParts). IsNode node.parts)) c.in-Some.ensures.items c.loop-node.invariant.1)).1

pub loop-node-preserved : goal.loop-node-preserved
loop-node-preserved c =
    let left = c.pop.new.self.items in
    let last = c.in-Some.node in
    let differ = subst (KeysDiffer (λ (node : NamedParts). node.name)) c.in-Some.ensures.items c.loop-node.invariant.2 in (
      ap (λ (made : ByName NodeParts). with_nodes made left) c.in_ok-put_node.ensures
          ∙ node_first c.loop-node.held left last differ
          ∙ ap (with_nodes c.loop-node.held) (sym c.in-Some.ensures.items)
          ∙ c.loop-node.invariant.0,
      (all_before (λ (node : NamedParts). IsNode node.parts) left last (subst (AllByRecursion (λ (node : NamedParts). IsNode node.parts)) c.in-Some.ensures.items c.loop-node.invariant.1)).0,
      keys_before left last differ,
    )
