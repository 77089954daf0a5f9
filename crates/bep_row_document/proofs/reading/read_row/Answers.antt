use Rattle.std.proofs.Common.{◌≡◌, Err, sym, ap, subst, rules}
use Rattle.bep_document.specs.Reading.{Answers, ◌>>=◌}
use Rattle.bep_document.proofs.told.Readings.{refusal_stays}
use Rattle.bep_row_document.specs.Reading.{reading_of_row, reading_of_text, row_judged}
use Rattle.bep_row_document.proofs.reading.read_row.Goals as goal

pub returns-in_err-text : goal.returns-in_err-text
unfolding reading_of_row
returns-in_err-text c =
    let made : c.from_residual.result ≡ Err c.in_err-text.field-0.0 = search rules in
    rw made (refusal_stays c.in_err-text.field-0.0 (reading_of_text c.args.version c.args.bytes.now) (row_judged c.args.header.now c.args.last.now) c.in_err-text.ensures)

pub returns : goal.returns
unfolding reading_of_row
returns c =
    subst (Answers c.row_judged.result) (sym (ap (λ r. r >>= row_judged c.args.header.now c.args.last.now) c.in_ok-text.ensures)) c.row_judged.ensures
