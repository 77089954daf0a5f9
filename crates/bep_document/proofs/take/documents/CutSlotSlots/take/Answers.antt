use Rattle.std.proofs.Common.{◌∙◌, sym, ap, ap₂}
use Rattle.bep_tree.specs.Names.{is_among}
use Rattle.bep_tree.proofs.Walking.{reaches_so}
use Rattle.bep_json.specs.Taking.{with_member}
use Rattle.bep_json.proofs.TakingFacts.{fills}
use Rattle.bep_document.specs.inner.Documents.{document_names, cut_slot}
use Rattle.bep_document.proofs.take.documents.CutSlotSlots.take.Goals as goal

pub returns-in-version-clause-value : goal.returns-in-version-clause-value
returns-in-version-clause-value c = λ look d rest known stood.
    let slots = cut_slot c.args.version in
    reaches_so _ _ c.passed.result (λ filled is.
    fills document_names slots c.args.key.now d look _ _ _ rest filled is.0 (ap (λ k. is_among k document_names) c.in-version.is)
    (known ∙ ap (λ k. slots (with_member k d look)) (sym c.in-version.is)) is.1)
    (c.passed.ensures.value d rest stood)

pub returns-in-cut-clause-value : goal.returns-in-cut-clause-value
returns-in-cut-clause-value c = λ look d rest known stood.
    let slots = cut_slot c.args.version in
    reaches_so _ _ c.fill.result (λ filled is.
    fills document_names slots c.args.key.now d look _ _ _ rest filled is.0 (ap (λ k. is_among k document_names) c.in-cut.is)
    (ap₂ (λ slot s. record { cut = slot }) is.1 known ∙ ap (λ k. slots (with_member k d look)) (sym c.in-cut.is)) is.2)
    (c.fill.ensures.value d rest stood)

pub returns-in-certificate-clause-value : goal.returns-in-certificate-clause-value
returns-in-certificate-clause-value c = λ look d rest known stood.
    let slots = cut_slot c.args.version in
    reaches_so _ _ c.passed-in-certificate.result (λ filled is.
    fills document_names slots c.args.key.now d look _ _ _ rest filled is.0 (ap (λ k. is_among k document_names) c.in-certificate.is)
    (known ∙ ap (λ k. slots (with_member k d look)) (sym c.in-certificate.is)) is.1)
    (c.passed-in-certificate.ensures.value d rest stood)
