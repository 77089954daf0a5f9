use Rattle.std.proofs.Common.{ℕ, List, refl, subst}
use Rattle.bep_json.specs.Added.{Adds}
use Rattle.bep_explain.specs.Annotated.{reason_tree}
use Rattle.bep_explain.proofs.JsonFacts.{tells_all, tells_one}
use Rattle.bep_converge_check.specs.Hindrance.{hinder_shown}
use Rattle.bep_converge_explain.specs.Told.{HinderAnnotated, hinder_tree}
use Rattle.bep_converge_explain.proofs.as_json.write_all.Goals as goal

pub loop-one-preserved : goal.loop-one-preserved
loop-one-preserved c =
    let l = c.loop-one in
    let one : HinderAnnotated = record { hinder = hinder_shown c.one-item.result; details = c.in_ok-write_reason.ensures.0 } in
    let said = subst (λ (word : List ℕ). Adds (reason_tree word one.hinder.place one.details) l.out c.write_reason.new.out) c.converge_word_of-word.ensures c.in_ok-write_reason.ensures.1 in
    tells_one hinder_tree (λ (a : HinderAnnotated). a.hinder) hinder_shown c.args.found.now l.one-index c.one-item.result one _ l.out _ c.loop-one-test.true c.one-item.is refl said l.invariant

pub returns : goal.returns
returns c =
    tells_all hinder_tree (λ (one : HinderAnnotated). one.hinder) hinder_shown c.args.found.now c.loop-one.one-index _ c.loop-one.out c.loop-one-test.false c.loop-one.invariant
