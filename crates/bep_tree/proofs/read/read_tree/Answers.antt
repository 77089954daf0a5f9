use Rattle.bep_tree.proofs.Text.{of_no_text}
use Rattle.bep_tree.proofs.read.read_tree.Goals as goal

pub returns-in-Err : goal.returns-in-Err
returns-in-Err c = of_no_text c.args.bytes.now c.in-Err.ensures.cases.0
