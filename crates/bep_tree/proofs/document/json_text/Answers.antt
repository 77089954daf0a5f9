use Rattle.bep_tree.proofs.Text.{of_no_text}
use Rattle.bep_tree.proofs.document.json_text.Goals as goal

pub returns-in_default : goal.returns-in_default
returns-in_default c = of_no_text c.args.bytes.now c.in_default.ensures.cases.0
