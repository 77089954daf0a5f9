use Rattle.std.proofs.Common.{◌∙◌, sym, ap, ap₂}
use Rattle.bep_tree.specs.Names.{is_among}
use Rattle.bep_tree.proofs.Walking.{reaches_so}
use Rattle.bep_json.specs.Taking.{with_member}
use Rattle.bep_json.proofs.TakingFacts.{fills}
use Rattle.bep_document.specs.inner.Rows.{row_names, row_slots}
use Rattle.bep_document.proofs.take.rows.RowSlotsSlots.take.Goals as goal

pub returns-in-folder-clause-value : goal.returns-in-folder-clause-value
returns-in-folder-clause-value c = λ look d rest known stood.
    let slots = row_slots c.args.version in
    reaches_so _ _ c.fill_leaf.result (λ filled is.
    fills row_names slots c.args.key.now d look _ _ _ rest filled is.0 (ap (λ k. is_among k row_names) c.in-folder.is)
    (ap₂ (λ slot s. record { folder = slot; device = s.device; entry = s.entry }) is.1 known ∙ ap (λ k. slots (with_member k d look)) (sym c.in-folder.is)) is.2)
    (c.fill_leaf.ensures.value d rest stood)

pub returns-in-device-clause-value : goal.returns-in-device-clause-value
returns-in-device-clause-value c = λ look d rest known stood.
    let slots = row_slots c.args.version in
    reaches_so _ _ c.fill_leaf-in-device.result (λ filled is.
    fills row_names slots c.args.key.now d look _ _ _ rest filled is.0 (ap (λ k. is_among k row_names) c.in-device.is)
    (ap₂ (λ slot s. record { folder = s.folder; device = slot; entry = s.entry }) is.1 known ∙ ap (λ k. slots (with_member k d look)) (sym c.in-device.is)) is.2)
    (c.fill_leaf-in-device.ensures.value d rest stood)

pub returns-in-record-clause-value : goal.returns-in-record-clause-value
returns-in-record-clause-value c = λ look d rest known stood.
    let slots = row_slots c.args.version in
    reaches_so _ _ c.fill.result (λ filled is.
    fills row_names slots c.args.key.now d look _ _ _ rest filled is.0 (ap (λ k. is_among k row_names) c.in-record.is)
    (ap₂ (λ slot s. record { folder = s.folder; device = s.device; entry = slot }) is.1 known ∙ ap (λ k. slots (with_member k d look)) (sym c.in-record.is)) is.2)
    (c.fill.ensures.value d rest stood)
