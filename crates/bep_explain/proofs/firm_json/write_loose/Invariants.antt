use Rattle.std.proofs.Common.{drop, map}
use Rattle.bep_audit.specs.Loose.{loose_shown}
use Rattle.bep_explain.specs.FirmTold.{LooseAnnotated, loose_tree}
use Rattle.bep_explain.proofs.JsonFacts.{TellsAll}
use Rattle.bep_explain.proofs.firm_json.write_loose.Given as goal

-- once those that are left are told too, all are
abbrev pub invariant-loop-one : goal.invariant-loop-one
invariant-loop-one l = TellsAll loose_tree (λ (one : LooseAnnotated). one.loosening) (map loose_shown (drop l.one-index l.found)) (map loose_shown l.found) l.out l.fn.out
