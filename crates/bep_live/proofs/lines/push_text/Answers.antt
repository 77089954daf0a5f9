use Rattle.std.proofs.Common.{arith}
use Rattle.bep_live.proofs.LineText.{text_with_line}
use Rattle.bep_live.proofs.lines.push_text.Goals as goal

pub returns-clause-text : goal.returns-clause-text
returns-clause-text c =
    text_with_line c.push_line.result c.args.text.now.items c.push_line.new.text.items c.args.words.now c.args.number (omega arith) c.utf8.words c.push_line.ensures
