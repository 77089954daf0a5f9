use Rattle.std.proofs.Common.{drop}
use Rattle.std.specs.List.{AllByRecursion}
use Rattle.bep_run_check.specs.Log.{PutsNode}
use Rattle.bep_run_check.proofs.log.edits_put_nodes.Given as goal

-- where those that are left put nodes, all do
abbrev pub invariant-loop-one : goal.invariant-loop-one
invariant-loop-one l = AllByRecursion PutsNode (drop l.one-index l.events) → AllByRecursion PutsNode l.events
