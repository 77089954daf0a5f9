use Rattle.std.proofs.Common.{◌∙◌, sym, ap, ap₂}
use Rattle.bep_tree.specs.Names.{is_among}
use Rattle.bep_tree.proofs.Walking.{reaches_so}
use Rattle.bep_json.specs.Taking.{with_member}
use Rattle.bep_json.proofs.TakingFacts.{fills}
use Rattle.bep_document.specs.inner.Documents.{document_names, check_slots}
use Rattle.bep_document.proofs.take.documents.CheckSlotsSlots.take.Goals as goal

pub returns-in-version-clause-value : goal.returns-in-version-clause-value
returns-in-version-clause-value c = λ look d rest known stood.
    let slots = check_slots c.args.version in
    reaches_so _ _ c.fill_leaf.result (λ filled is.
    fills document_names slots c.args.key.now d look _ _ _ rest filled is.0 (ap (λ k. is_among k document_names) c.in-version.is)
    (ap₂ (λ slot s. record { version = slot; cut = s.cut; certificate = s.certificate }) is.1 known ∙ ap (λ k. slots (with_member k d look)) (sym c.in-version.is)) is.2)
    (c.fill_leaf.ensures.value d rest stood)

pub returns-in-cut-clause-value : goal.returns-in-cut-clause-value
returns-in-cut-clause-value c = λ look d rest known stood.
    let slots = check_slots c.args.version in
    reaches_so _ _ c.fill.result (λ filled is.
    fills document_names slots c.args.key.now d look _ _ _ rest filled is.0 (ap (λ k. is_among k document_names) c.in-cut.is)
    (ap₂ (λ slot s. record { version = s.version; cut = slot; certificate = s.certificate }) is.1 known ∙ ap (λ k. slots (with_member k d look)) (sym c.in-cut.is)) is.2)
    (c.fill.ensures.value d rest stood)

pub returns-in-certificate-clause-value : goal.returns-in-certificate-clause-value
returns-in-certificate-clause-value c = λ look d rest known stood.
    let slots = check_slots c.args.version in
    reaches_so _ _ c.fill-in-certificate.result (λ filled is.
    fills document_names slots c.args.key.now d look _ _ _ rest filled is.0 (ap (λ k. is_among k document_names) c.in-certificate.is)
    (ap₂ (λ slot s. record { version = s.version; cut = s.cut; certificate = slot }) is.1 known ∙ ap (λ k. slots (with_member k d look)) (sym c.in-certificate.is)) is.2)
    (c.fill-in-certificate.ensures.value d rest stood)
