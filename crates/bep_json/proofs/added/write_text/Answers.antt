use Rattle.bep_json.proofs.AddedFacts.{text_added}
use Rattle.bep_json.proofs.added.write_text.Goals as goal

pub returns : goal.returns
returns c = text_added c.args.text.now c.in_ok-string.ensures
