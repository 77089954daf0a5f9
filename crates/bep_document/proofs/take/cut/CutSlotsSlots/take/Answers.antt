use Rattle.std.proofs.Common.{◌∙◌, sym, ap, ap₂}
use Rattle.bep_tree.specs.Names.{is_among}
use Rattle.bep_tree.proofs.Walking.{reaches_so}
use Rattle.bep_json.specs.Taking.{with_member}
use Rattle.bep_json.proofs.TakingFacts.{fills}
use Rattle.bep_document.specs.inner.Cuts.{cut_names, cut_slots}
use Rattle.bep_document.proofs.take.cut.CutSlotsSlots.take.Goals as goal

pub returns-in-folders-clause-value : goal.returns-in-folders-clause-value
returns-in-folders-clause-value c = λ look d rest known stood.
    let slots = cut_slots c.args.version in
    reaches_so _ _ c.fill.result (λ filled is.
    fills cut_names slots c.args.key.now d look _ _ _ rest filled is.0 (ap (λ k. is_among k cut_names) c.in-folders.is)
    (ap₂ (λ slot s. record { folders = slot; links = s.links }) is.1 known ∙ ap (λ k. slots (with_member k d look)) (sym c.in-folders.is)) is.2)
    (c.fill.ensures.value d rest stood)

pub returns-in-links-clause-value : goal.returns-in-links-clause-value
returns-in-links-clause-value c = λ look d rest known stood.
    let slots = cut_slots c.args.version in
    reaches_so _ _ c.fill-in-links.result (λ filled is.
    fills cut_names slots c.args.key.now d look _ _ _ rest filled is.0 (ap (λ k. is_among k cut_names) c.in-links.is)
    (ap₂ (λ slot s. record { folders = s.folders; links = slot }) is.1 known ∙ ap (λ k. slots (with_member k d look)) (sym c.in-links.is)) is.2)
    (c.fill-in-links.ensures.value d rest stood)
