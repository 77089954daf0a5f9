use Rattle.std.proofs.Common.{◌≡◌, ◌∙◌, Err, sym, ap, subst, rules}
use Rattle.serde_json.specs.Find.{get}
use Rattle.std.specs.Prelude.{codes}
use Rattle.bep_json.specs.Tree.{names_of}
use Rattle.bep_tree.specs.Names.{has_only}
use Rattle.bep_document.specs.Reading.{Answers, ◌>>=◌, document_tree, given, passed, reading_of_cut, reading_of_cut_in, reading_of_cut_document}
use Rattle.bep_document.specs.declared.fault.Fault.TheVariants.{Shape}
use Rattle.bep_document.specs.inner.Texts.{cut_parts, parts_read}
use Rattle.bep_document.specs.read.Checks.{check_members}
use Rattle.bep_document.proofs.told.Readings.{cut_in_reading, no_version_stays}
use Rattle.bep_document.proofs.reading.read_cut_document.Goals as goal

pub returns-in_err-version : goal.returns-in_err-version
unfolding reading_of_cut_document reading_of_cut_in
returns-in_err-version c =
    let made : c.from_residual.result ≡ Err c.in_err-version.field-0.0 = search rules in
    rw made (no_version_stays c.in_err-version.field-0.0 (document_tree c.args.bytes.now) (λ version d. passed Shape (has_only (names_of (check_members version))) d >>= λ listed. given Shape (get (codes "cut") listed) >>= reading_of_cut version) c.in_err-version.ensures)

pub returns : goal.returns
unfolding reading_of_cut_document
returns c =
    let version = c.in_ok-version.version in
    let known = c.in_ok-version.ensures in
    let told = c.cut_parts.ensures ∙ ap (cut_parts version) (c.in_ok-told.ensures known.0 known.2) in
    subst (Answers c.parts_read.result) (ap parts_read told ∙ cut_in_reading version known.0 known.3 ∙ sym (ap (λ r. r >>= reading_of_cut_in) known.1)) c.parts_read.ensures
