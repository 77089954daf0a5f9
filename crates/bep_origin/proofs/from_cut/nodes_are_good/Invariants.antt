use Rattle.std.specs.FinMap.{values}
use Rattle.std.specs.List.{AllByRecursion}
use Rattle.bep_record.specs.Node.{IsNode}
use Rattle.bep_origin.proofs.from_cut.nodes_are_good.Given as goal

-- where those that are left are good, all are
abbrev pub invariant-loop-node : goal.invariant-loop-node
invariant-loop-node l = AllByRecursion IsNode l.node-iterator → AllByRecursion IsNode (values l.nodes)
