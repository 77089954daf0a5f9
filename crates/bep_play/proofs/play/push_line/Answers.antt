use Rattle.std.proofs.Common.{arith}
use Rattle.bep_play.proofs.StepText.{text_with_step}
use Rattle.bep_play.proofs.play.push_line.Goals as goal

pub returns-clause-text : goal.returns-clause-text
returns-clause-text c =
    text_with_step c.push_step.result c.args.told.now.items c.push_step.new.text.items c.args.place c.args.number c.args.word.now (omega arith) (omega arith) c.utf8.word c.push_step.ensures
