use Rattle.std.proofs.Common.{◌∙◌, sym, ap, ap₂}
use Rattle.bep_tree.specs.Names.{is_among}
use Rattle.bep_tree.proofs.Walking.{reaches_so}
use Rattle.bep_json.specs.Taking.{with_member}
use Rattle.bep_json.proofs.TakingFacts.{fills}
use Rattle.bep_document.specs.inner.Views.{view_names, view_slots}
use Rattle.bep_document.proofs.take.views.ViewSlotsSlots.take.Goals as goal

pub returns-in-of-clause-value : goal.returns-in-of-clause-value
returns-in-of-clause-value c = λ look d rest known stood.
    let slots = view_slots c.args.version in
    reaches_so _ _ c.fill_leaf.result (λ filled is.
    fills view_names slots c.args.key.now d look _ _ _ rest filled is.0 (ap (λ k. is_among k view_names) c.in-of.is)
    (ap₂ (λ slot s. record { of = slot; index_id = s.index_id; max = s.max; records = s.records }) is.1 known ∙ ap (λ k. slots (with_member k d look)) (sym c.in-of.is)) is.2)
    (c.fill_leaf.ensures.value d rest stood)

pub returns-in-index_id-clause-value : goal.returns-in-index_id-clause-value
returns-in-index_id-clause-value c = λ look d rest known stood.
    let slots = view_slots c.args.version in
    reaches_so _ _ c.fill_leaf-in-index_id.result (λ filled is.
    fills view_names slots c.args.key.now d look _ _ _ rest filled is.0 (ap (λ k. is_among k view_names) c.in-index_id.is)
    (ap₂ (λ slot s. record { of = s.of; index_id = slot; max = s.max; records = s.records }) is.1 known ∙ ap (λ k. slots (with_member k d look)) (sym c.in-index_id.is)) is.2)
    (c.fill_leaf-in-index_id.ensures.value d rest stood)

pub returns-in-max-clause-value : goal.returns-in-max-clause-value
returns-in-max-clause-value c = λ look d rest known stood.
    let slots = view_slots c.args.version in
    reaches_so _ _ c.fill_leaf-in-max.result (λ filled is.
    fills view_names slots c.args.key.now d look _ _ _ rest filled is.0 (ap (λ k. is_among k view_names) c.in-max.is)
    (ap₂ (λ slot s. record { of = s.of; index_id = s.index_id; max = slot; records = s.records }) is.1 known ∙ ap (λ k. slots (with_member k d look)) (sym c.in-max.is)) is.2)
    (c.fill_leaf-in-max.ensures.value d rest stood)

pub returns-in-records-clause-value : goal.returns-in-records-clause-value
returns-in-records-clause-value c = λ look d rest known stood.
    let slots = view_slots c.args.version in
    reaches_so _ _ c.fill.result (λ filled is.
    fills view_names slots c.args.key.now d look _ _ _ rest filled is.0 (ap (λ k. is_among k view_names) c.in-records.is)
    (ap₂ (λ slot s. record { of = s.of; index_id = s.index_id; max = s.max; records = slot }) is.1 known ∙ ap (λ k. slots (with_member k d look)) (sym c.in-records.is)) is.2)
    (c.fill.ensures.value d rest stood)
