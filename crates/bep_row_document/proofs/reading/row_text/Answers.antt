use Rattle.std.proofs.Common.{◌≡◌, ◌∙◌, Err, sym, ap, subst, rules}
use Rattle.bep_document.specs.Reading.{Answers, IsRefusal, of_told}
use Rattle.bep_document.specs.declared.error.DocError.TheVariants as errors
use Rattle.bep_row_document.specs.Reading.{reading_of_text}
use Rattle.bep_row_document.proofs.ReadingFacts.{no_json, told_text}
use Rattle.bep_row_document.proofs.reading.row_text.Goals as goal

pub returns-in_default : goal.returns-in_default
returns-in_default c =
    let none = rw c.in_default.is at c.in_ok-text.ensures in
    subst (λ e. IsRefusal e (reading_of_text c.args.version c.args.bytes.now)) (sym c.refused.ensures) (no_json c.args.version c.args.bytes.now none)

pub returns-in_err-thing_told : goal.returns-in_err-thing_told
returns-in_err-thing_told c =
    let known = rw c.in-Some.is at c.in_ok-text.ensures in
    let told = c.in_ok-told.ensures known.0 known.2 in
    let made : c.from_residual-in_err-thing_told.result ≡ Err (errors.Refused c.in_err-thing_told.field-0.0) = search rules in
    rw made (told_text c.args.version c.args.bytes.now known.0 known.1 ∙ ap of_told (sym told) ∙ c.in_err-thing_told.ensures)

pub returns : goal.returns
returns c =
    let known = rw c.in-Some.is at c.in_ok-text.ensures in
    let told = c.in_ok-told.ensures known.0 known.2 in
    told_text c.args.version c.args.bytes.now known.0 known.1 ∙ ap of_told (sym told) ∙ c.in_ok-thing_told.ensures
