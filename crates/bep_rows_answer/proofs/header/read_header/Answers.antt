use Rattle.std.proofs.Common.{◌≡◌, ◌∙◌, Err, sym, ap, subst, rules}
use Rattle.std.specs.Prelude.{if◌then◌else◌}
use Rattle.bep_cut_document.specs.Written.{cut_of_document}
use Rattle.bep_document.specs.Fault.{nowhere}
use Rattle.bep_document.specs.Reading.{Reading, Read, Refused, IsRefusal, ◌>>=◌}
use Rattle.bep_document.specs.declared.fault.Fault.TheVariants.{Shape}
use Rattle.bep_document.proofs.told.Readings.{refusal_stays}
use Rattle.bep_json.specs.declared.version.DocVersion.{DocVersion}
use Rattle.bep_tables.specs.declared.cut.CutParts.{CutParts}
use Rattle.bep_rows_answer.specs.Header.{bare, reading_of_header}
use Rattle.bep_rows_answer.proofs.header.read_header.Goals as goal

pub returns-in_err-version : goal.returns-in_err-version
unfolding reading_of_header
returns-in_err-version c =
    let made : c.from_residual.result ≡ Err c.in_err-version.field-0.0 = search rules in
    rw made (refusal_stays c.in_err-version.field-0.0 (cut_of_document c.args.bytes.now) bare c.in_err-version.ensures)

pub returns-then-has_names : goal.returns-then-has_names
unfolding reading_of_header
returns-then-has_names c =
    let said : DocVersion × CutParts = (c.in_ok-version.version, c.in_ok-version.header) in
    let is = sym c.has_names.ensures ∙ c.if-has_names.true in
    subst (λ e. IsRefusal e (cut_of_document c.args.bytes.now >>= bare)) (sym c.refused.ensures)
    (ap (λ r. r >>= bare) c.in_ok-version.ensures ∙ ap (λ b. if b then Refused (nowhere Shape) else Read said) is)

pub returns : goal.returns
unfolding reading_of_header
returns c =
    let said : DocVersion × CutParts = (c.in_ok-version.version, c.in_ok-version.header) in
    let is = sym c.has_names.ensures ∙ c.if-has_names.false in
    ap (λ r. r >>= bare) c.in_ok-version.ensures ∙ ap (λ b. if b then Refused (nowhere Shape) else Read said) is
