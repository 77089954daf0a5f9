use Rattle.std.proofs.Common.{◌∙◌, sym, ap, ap₂}
use Rattle.bep_tree.specs.Names.{is_among}
use Rattle.bep_tree.proofs.Walking.{reaches_so}
use Rattle.bep_json.specs.Taking.{with_member}
use Rattle.bep_json.proofs.TakingFacts.{fills}
use Rattle.bep_scenario.specs.inner.Fresh.{folder_names, folder_slots}
use Rattle.bep_scenario.proofs.fresh.folders.FolderSlotsSlots.take.Goals as goal

pub returns-in-folder-clause-value : goal.returns-in-folder-clause-value
returns-in-folder-clause-value c = λ look d rest known stood.
    let slots = folder_slots in
    reaches_so _ _ c.fill_leaf.result (λ filled is.
    fills folder_names slots c.args.key.now d look _ _ _ rest filled is.0 (ap (λ k. is_among k folder_names) c.in-folder.is)
    (ap₂ (λ slot s. record { folder = slot; devices = s.devices }) is.1 known ∙ ap (λ k. slots (with_member k d look)) (sym c.in-folder.is)) is.2)
    (c.fill_leaf.ensures.value d rest stood)

pub returns-in-devices-clause-value : goal.returns-in-devices-clause-value
returns-in-devices-clause-value c = λ look d rest known stood.
    let slots = folder_slots in
    reaches_so _ _ c.fill.result (λ filled is.
    fills folder_names slots c.args.key.now d look _ _ _ rest filled is.0 (ap (λ k. is_among k folder_names) c.in-devices.is)
    (ap₂ (λ slot s. record { folder = s.folder; devices = slot }) is.1 known ∙ ap (λ k. slots (with_member k d look)) (sym c.in-devices.is)) is.2)
    (c.fill.ensures.value d rest stood)
