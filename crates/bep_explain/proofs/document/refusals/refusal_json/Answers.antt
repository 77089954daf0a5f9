use Rattle.bep_explain.specs.document.Explained.{refusal_tree}
use Rattle.bep_explain.proofs.document.refusals.refusal_json.Goals as goal

pub returns : goal.returns
returns c = c.in_ok-text.ensures (refusal_tree c.args.fault.now) _ c.new-out.ensures.tokens c.in_ok-write_refusal.ensures
