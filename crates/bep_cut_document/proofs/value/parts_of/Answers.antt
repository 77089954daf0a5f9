use Rattle.std.proofs.Common.{◌≡◌, ◌∙◌, true, ap, subst}
use Rattle.std.specs.Str.{is_utf8}
use Rattle.std.specs.String.{string_bytes}
use Rattle.std.proofs.lemmas.Str.{IsUtf8-string_bytes, is_utf8-from_IsUtf8}
use Rattle.serde_json.specs.View.{view}
use Rattle.bep_document.specs.Reading.{Answers, reading_of_cut_text}
use Rattle.bep_cut_document.proofs.ReadAgain.{cut_text_as, cut_text_faultless}
use Rattle.bep_cut_document.proofs.value.parts_of.Goals as goal

pub returns-clause-faultless : goal.returns-clause-faultless
returns-clause-faultless c = cut_text_faultless c.args.version c.as_bytes.result.now c.read_cut_text.result c.readings_are_faultless.ensures.cuts c.read_cut_text.ensures

pub returns-clause-says : goal.returns-clause-says
returns-clause-says c = λ shallow.
    let text = c.in_ok-text.text in
    let utf8 : is_utf8 (string_bytes text) ≡ true = is_utf8-from_IsUtf8 (string_bytes text) (IsUtf8-string_bytes text) in
    let says = ap (reading_of_cut_text c.args.version) c.as_bytes.ensures.value ∙ cut_text_as c.args.version (string_bytes text) (view c.args.value.now) utf8 (c.in_ok-text.ensures.reads_back shallow) in
    subst (Answers c.read_cut_text.result) says c.read_cut_text.ensures
