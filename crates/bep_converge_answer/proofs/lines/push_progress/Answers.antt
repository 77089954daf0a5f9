use Rattle.bep_converge_answer.proofs.ProgressTold.{lines_shown}
use Rattle.bep_converge_answer.proofs.lines.push_progress.Goals as goal

pub returns : goal.returns
returns c = rw (lines_shown c.args.folders.now) c.push_each.ensures
