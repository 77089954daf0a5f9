use Rattle.bep_converge_explain.specs.Told.{converge_explanation_tree}
use Rattle.bep_converge_explain.proofs.as_json.converge_explanation_json.Goals as goal

pub returns : goal.returns
returns c =
    let adds = c.in_ok-write_explanation.ensures in
    (adds.0, adds.1, c.in_ok-text.ensures (converge_explanation_tree adds.0) _ c.new-out.ensures.tokens adds.2)

pub line_of-requires : goal.line_of-requires
line_of-requires c = let kept = c.in_ok-write_explanation.ensures.2.follow.before in cc
