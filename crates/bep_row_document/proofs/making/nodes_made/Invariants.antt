use Rattle.std.proofs.Common.{◌≡◌, ◌++◌, map}
use Rattle.std.specs.List.{AllByRecursion}
use Rattle.bep_record.specs.Node.{IsNode}
use Rattle.bep_row_document.proofs.making.nodes_made.Given as goal

-- the nodes so far with those that are left are all of them
abbrev pub invariant-loop-node : goal.invariant-loop-node
invariant-loop-node l =
    (l.held.items ++ map (λ node. node.parts) l.node-iterator.rest.items ≡ map (λ node. node.parts) l.fn.nodes) × AllByRecursion (λ node. IsNode node.parts) l.node-iterator.rest.items
