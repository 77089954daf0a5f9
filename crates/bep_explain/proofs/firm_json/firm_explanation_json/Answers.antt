use Rattle.bep_explain.specs.FirmTold.{firm_explanation_tree}
use Rattle.bep_explain.proofs.firm_json.firm_explanation_json.Goals as goal

pub returns : goal.returns
returns c =
    let adds = c.in_ok-write_firm_explanation.ensures in
    (adds.0, adds.1, adds.2, adds.3, c.in_ok-text.ensures (firm_explanation_tree adds.0 adds.1) _ c.new-out.ensures.tokens adds.4)

pub line_of-requires : goal.line_of-requires
line_of-requires c = let kept = c.in_ok-write_firm_explanation.ensures.4.follow.before in cc
