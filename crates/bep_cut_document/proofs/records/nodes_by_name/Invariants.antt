use Rattle.std.proofs.Common.{◌≡◌, length}
use Rattle.std.specs.List.{AllByRecursion}
use Rattle.std.specs.FinMap.{empty}
use Rattle.bep_record.specs.Node.{IsNode}
use Rattle.bep_document.specs.Faultless.{KeysDiffer}
use Rattle.bep_cut_document.specs.Written.{with_nodes}
use Rattle.bep_cut_document.proofs.records.nodes_by_name.Given as goal

-- the nodes so far with those that are left are all of them
abbrev pub invariant-loop-node : goal.invariant-loop-node
invariant-loop-node l =
    (with_nodes l.held l.rest.items ≡ with_nodes empty l.fn.nodes) × AllByRecursion (λ node. IsNode node.parts) l.rest.items × KeysDiffer (λ node. node.name) l.rest.items

abbrev pub decreases-loop-node : goal.decreases-loop-node
decreases-loop-node l = length l.rest.items
