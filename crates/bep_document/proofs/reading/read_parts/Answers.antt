use Rattle.std.proofs.Common.{◌≡◌, ◌∙◌, Err, sym, ap, subst, rules}
use Rattle.bep_document.specs.Reading.{Answers, ◌>>=◌, document_tree, of_shape, first_fault, reading_of_tree, reading_of}
use Rattle.bep_document.specs.inner.Texts.{parts_read}
use Rattle.bep_document.specs.read.Checks.{is_check, read_check_parts}
use Rattle.bep_document.proofs.told.Readings.{check_reading, no_version_stays}
use Rattle.bep_document.proofs.reading.read_parts.Goals as goal

pub returns-in_err-version : goal.returns-in_err-version
unfolding reading_of reading_of_tree
returns-in_err-version c =
    let made : c.from_residual.result ≡ Err c.in_err-version.field-0.0 = search rules in
    rw made (no_version_stays c.in_err-version.field-0.0 (document_tree c.args.bytes.now) (λ version d. of_shape (is_check version) (read_check_parts version) first_fault d) c.in_err-version.ensures)

pub returns : goal.returns
unfolding reading_of
returns c =
    let version = c.in_ok-version.version in
    let known = c.in_ok-version.ensures in
    let told = ap parts_read (c.in_ok-told.ensures known.0 known.2) in
    let read = check_reading version known.0 known.3 in
    subst (Answers c.parts_read.result) (told ∙ read ∙ sym (ap (λ r. r >>= reading_of_tree) known.1)) c.parts_read.ensures
