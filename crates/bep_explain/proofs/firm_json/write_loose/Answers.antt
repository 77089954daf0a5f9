use Rattle.std.proofs.Common.{ℕ, List, refl, subst}
use Rattle.bep_audit.specs.Loose.{loose_shown}
use Rattle.bep_json.specs.Added.{Adds}
use Rattle.bep_model.specs.Reasons.{Place}
use Rattle.bep_explain.specs.Annotated.{reason_tree}
use Rattle.bep_explain.specs.FirmTold.{LooseAnnotated, loose_tree}
use Rattle.bep_explain.proofs.JsonFacts.{tells_all, tells_one}
use Rattle.bep_explain.proofs.firm_json.write_loose.Goals as goal

pub loop-one-preserved : goal.loop-one-preserved
loop-one-preserved c =
    let l = c.loop-one in
    let one : LooseAnnotated = record { loosening = loose_shown c.one-item.result; details = c.in_ok-write_reason.ensures.0 } in
    let at = subst (λ (place : Place). Adds (reason_tree c.firm_word_of.result.now place one.details) l.out c.write_reason.new.out) c.spot.ensures c.in_ok-write_reason.ensures.1 in
    let said = subst (λ (word : List ℕ). Adds (reason_tree word one.loosening.place one.details) l.out c.write_reason.new.out) c.firm_word_of.ensures at in
    tells_one loose_tree (λ (a : LooseAnnotated). a.loosening) loose_shown c.args.found.now l.one-index c.one-item.result one _ l.out _ c.loop-one-test.true c.one-item.is refl said l.invariant

pub returns : goal.returns
returns c =
    tells_all loose_tree (λ (one : LooseAnnotated). one.loosening) loose_shown c.args.found.now c.loop-one.one-index _ c.loop-one.out c.loop-one-test.false c.loop-one.invariant
