use Rattle.std.proofs.Common.{◌∙◌, sym, ap, subst}
use Rattle.bep_document.specs.Reading.{Answers, ◌>>=◌, reading_of_cut}
use Rattle.bep_document.specs.inner.Texts.{cut_parts, parts_read}
use Rattle.bep_document.proofs.told.Readings.{cut_reading}
use Rattle.bep_document.proofs.reading.read_cut_text.Goals as goal

pub returns : goal.returns
returns c =
    let version = c.args.version in
    let known = c.in_ok-text.ensures in
    let told = c.cut_parts.ensures ∙ ap (cut_parts version) (c.in_ok-told.ensures known.0 known.2) in
    subst (Answers c.parts_read.result) (ap parts_read told ∙ cut_reading version known.0 ∙ sym (ap (λ r. r >>= reading_of_cut version) known.1)) c.parts_read.ensures
