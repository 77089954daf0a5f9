use Rattle.std.proofs.Common.{◌∙◌, sym, ap, ap₂}
use Rattle.bep_tree.specs.Names.{is_among}
use Rattle.bep_tree.proofs.Walking.{reaches_so}
use Rattle.bep_json.specs.Taking.{with_member}
use Rattle.bep_json.proofs.TakingFacts.{fills}
use Rattle.bep_scenario.specs.inner.Fresh.{share_names, share_slots}
use Rattle.bep_scenario.proofs.fresh.shares.ShareSlotsSlots.take.Goals as goal

pub returns-in-device-clause-value : goal.returns-in-device-clause-value
returns-in-device-clause-value c = λ look d rest known stood.
    let slots = share_slots in
    reaches_so _ _ c.fill_leaf.result (λ filled is.
    fills share_names slots c.args.key.now d look _ _ _ rest filled is.0 (ap (λ k. is_among k share_names) c.in-device.is)
    (ap₂ (λ slot s. record { device = slot; kind = s.kind; index_id = s.index_id }) is.1 known ∙ ap (λ k. slots (with_member k d look)) (sym c.in-device.is)) is.2)
    (c.fill_leaf.ensures.value d rest stood)

pub returns-in-kind-clause-value : goal.returns-in-kind-clause-value
returns-in-kind-clause-value c = λ look d rest known stood.
    let slots = share_slots in
    reaches_so _ _ c.fill_leaf-in-kind.result (λ filled is.
    fills share_names slots c.args.key.now d look _ _ _ rest filled is.0 (ap (λ k. is_among k share_names) c.in-kind.is)
    (ap₂ (λ slot s. record { device = s.device; kind = slot; index_id = s.index_id }) is.1 known ∙ ap (λ k. slots (with_member k d look)) (sym c.in-kind.is)) is.2)
    (c.fill_leaf-in-kind.ensures.value d rest stood)

pub returns-in-index_id-clause-value : goal.returns-in-index_id-clause-value
returns-in-index_id-clause-value c = λ look d rest known stood.
    let slots = share_slots in
    reaches_so _ _ c.fill_leaf-in-index_id.result (λ filled is.
    fills share_names slots c.args.key.now d look _ _ _ rest filled is.0 (ap (λ k. is_among k share_names) c.in-index_id.is)
    (ap₂ (λ slot s. record { device = s.device; kind = s.kind; index_id = slot }) is.1 known ∙ ap (λ k. slots (with_member k d look)) (sym c.in-index_id.is)) is.2)
    (c.fill_leaf-in-index_id.ensures.value d rest stood)
