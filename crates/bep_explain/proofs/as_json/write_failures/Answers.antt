use Rattle.std.proofs.Common.{ℕ, List, refl, subst}
use Rattle.bep_audit.specs.Walk.{failure_shown}
use Rattle.bep_json.specs.Added.{Adds}
use Rattle.bep_explain.specs.Annotated.{Annotated, failure_tree, reason_tree}
use Rattle.bep_explain.proofs.JsonFacts.{tells_all, tells_one}
use Rattle.bep_explain.proofs.as_json.write_failures.Goals as goal

pub loop-one-preserved : goal.loop-one-preserved
loop-one-preserved c =
    let l = c.loop-one in
    let one : Annotated = record { failure = failure_shown c.one-item.result; details = c.in_ok-write_reason.ensures.0 } in
    let said = subst (λ (word : List ℕ). Adds (reason_tree word one.failure.place one.details) l.out c.write_reason.new.out) c.word_of.ensures c.in_ok-write_reason.ensures.1 in
    tells_one failure_tree (λ (a : Annotated). a.failure) failure_shown c.args.found.now l.one-index c.one-item.result one _ l.out _ c.loop-one-test.true c.one-item.is refl said l.invariant

pub returns : goal.returns
returns c =
    tells_all failure_tree (λ (one : Annotated). one.failure) failure_shown c.args.found.now c.loop-one.one-index _ c.loop-one.out c.loop-one-test.false c.loop-one.invariant
