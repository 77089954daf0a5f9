use Rattle.std.proofs.Common.{drop, map}
use Rattle.bep_audit.specs.Walk.{failure_shown}
use Rattle.bep_explain.specs.Annotated.{Annotated, failure_tree}
use Rattle.bep_explain.proofs.JsonFacts.{TellsAll}
use Rattle.bep_explain.proofs.as_json.write_failures.Given as goal

-- once those that are left are told too, all are
abbrev pub invariant-loop-one : goal.invariant-loop-one
invariant-loop-one l = TellsAll failure_tree (λ (one : Annotated). one.failure) (map failure_shown (drop l.one-index l.found)) (map failure_shown l.found) l.out l.fn.out
