use Rattle.std.proofs.Common.{drop, map}
use Rattle.bep_explain.proofs.JsonFacts.{TellsAll}
use Rattle.bep_converge_check.specs.Hindrance.{hinder_shown}
use Rattle.bep_converge_explain.specs.Told.{HinderAnnotated, hinder_tree}
use Rattle.bep_converge_explain.proofs.as_json.write_all.Given as goal

-- once those that are left are told too, all are
abbrev pub invariant-loop-one : goal.invariant-loop-one
invariant-loop-one l = TellsAll hinder_tree (λ (one : HinderAnnotated). one.hinder) (map hinder_shown (drop l.one-index l.found)) (map hinder_shown l.found) l.out l.fn.out
