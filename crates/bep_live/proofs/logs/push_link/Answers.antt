use Rattle.std.proofs.Common.{arith}
use Rattle.bep_fit.specs.declared.object.Object.TheVariants.{Link}
use Rattle.bep_live.proofs.LineText.{text_with_object}
use Rattle.bep_live.proofs.logs.push_link.Goals as goal

pub returns-clause-text : goal.returns-clause-text
returns-clause-text c =
    text_with_object c.push_pieces.result c.args.text.now.items c.push_pieces.new.text.items c.args.words.now (Link c.args.lower c.args.upper) (omega arith, omega arith) c.utf8.words c.push_pieces.ensures
