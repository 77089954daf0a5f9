use Rattle.std.proofs.Common.{◌∙◌, Some, sym, ap}
use Rattle.json.specs.Json.{value}
use Rattle.serde_json.specs.Read.{max_depth}
use Rattle.bep_tree.specs.inner.Numbered.{found_in}
use Rattle.bep_tree.proofs.NumberedFacts.{document_found, no_document, more_than_document}
use Rattle.bep_tree.proofs.document.number_in_text.Goals as goal

pub returns-in_default : goal.returns-in_default
returns-in_default c =
    let name = c.args.name.now in
    no_document name c.args.text.now c.utf8.text (ap (λ ts. found_in name (value max_depth ts)) (sym c.in_ok-reader.ensures.ok) ∙ c.in_default.ensures)

pub returns-in-None : goal.returns-in-None
returns-in-None c =
    let name = c.args.name.now in
    let whole = ap (λ ts. found_in name (value max_depth ts)) (sym c.in_ok-reader.ensures.ok) ∙ c.in-Some.ensures ∙ ap (λ ts. Some (c.in-Some.number, ts)) c.in-None.ensures.value.0 in
    document_found name c.args.text.now c.in-Some.number c.utf8.text whole

pub returns-in-Some-next : goal.returns-in-Some-next
returns-in-Some-next c =
    let name = c.args.name.now in
    let more = ap (λ ts. found_in name (value max_depth ts)) (sym c.in_ok-reader.ensures.ok) ∙ c.in-Some.ensures ∙ ap (λ ts. Some (c.in-Some.number, ts)) c.in-Some-next.ensures.value in
    more_than_document name c.args.text.now c.in-Some.number _ _ c.utf8.text more
