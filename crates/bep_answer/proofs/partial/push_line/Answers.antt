use Rattle.std.proofs.Common.{IsUtf8, subst}
use Rattle.bep_answer.proofs.LineText.{text_with_line}
use Rattle.bep_answer.proofs.partial.push_line.Goals as goal

pub returns-clause-text : goal.returns-clause-text
returns-clause-text c =
    let spot = c.args.spot.now in
    text_with_line c.push_not_settled.result c.args.text.now.items c.push_not_settled.new.text.items spot.folder.now spot.name.now (subst IsUtf8 c.as_str-folder.ensures.value c.as_str-folder.utf8) (subst IsUtf8 c.as_str-name.ensures.value c.as_str-name.utf8) c.push_not_settled.ensures
