use Rattle.std.proofs.Common.{◌∙◌, refl, sym, ap, ap₂}
use Rattle.std.specs.Prelude.{codes}
use Rattle.bep_tree.specs.Names.{is_among}
use Rattle.bep_tree.proofs.Walking.{reaches_so}
use Rattle.bep_json.specs.Taking.{with_member}
use Rattle.bep_json.proofs.TakingFacts.{fills, other_name, neither}
use Rattle.bep_document.specs.inner.Shares.{share_names, share_slots}
use Rattle.bep_document.proofs.take.shares.ShareSlotsSlots.take.Goals as goal

pub returns-in-device-clause-value : goal.returns-in-device-clause-value
returns-in-device-clause-value c = λ look d rest known stood.
    let slots = share_slots c.args.version in
    reaches_so _ _ c.fill_leaf.result (λ filled is.
    fills share_names slots c.args.key.now d look _ _ _ rest filled is.0 (ap (λ k. is_among k share_names) c.in-device.is)
    (ap₂ (λ slot s. record { device = slot; kind = s.kind; index_id = s.index_id; max = s.max; own = s.own; store = s.store; views = s.views; pulls = s.pulls }) is.1 known ∙ ap (λ k. slots (with_member k d look)) (sym c.in-device.is)) is.2)
    (c.fill_leaf.ensures.value d rest stood)

pub returns-in-kind-clause-value : goal.returns-in-kind-clause-value
returns-in-kind-clause-value c = λ look d rest known stood.
    let slots = share_slots c.args.version in
    reaches_so _ _ c.fill_leaf-in-kind.result (λ filled is.
    fills share_names slots c.args.key.now d look _ _ _ rest filled is.0 (ap (λ k. is_among k share_names) c.in-kind.is)
    (ap₂ (λ slot s. record { device = s.device; kind = slot; index_id = s.index_id; max = s.max; own = s.own; store = s.store; views = s.views; pulls = s.pulls }) is.1 known ∙ ap (λ k. slots (with_member k d look)) (sym c.in-kind.is)) is.2)
    (c.fill_leaf-in-kind.ensures.value d rest stood)

pub returns-in-index_id-clause-value : goal.returns-in-index_id-clause-value
returns-in-index_id-clause-value c = λ look d rest known stood.
    let slots = share_slots c.args.version in
    reaches_so _ _ c.fill_leaf-in-index_id.result (λ filled is.
    fills share_names slots c.args.key.now d look _ _ _ rest filled is.0 (ap (λ k. is_among k share_names) c.in-index_id.is)
    (ap₂ (λ slot s. record { device = s.device; kind = s.kind; index_id = slot; max = s.max; own = s.own; store = s.store; views = s.views; pulls = s.pulls }) is.1 known ∙ ap (λ k. slots (with_member k d look)) (sym c.in-index_id.is)) is.2)
    (c.fill_leaf-in-index_id.ensures.value d rest stood)

pub returns-in-max-clause-value : goal.returns-in-max-clause-value
returns-in-max-clause-value c = λ look d rest known stood.
    let slots = share_slots c.args.version in
    reaches_so _ _ c.fill_leaf-in-max.result (λ filled is.
    fills share_names slots c.args.key.now d look _ _ _ rest filled is.0 (ap (λ k. is_among k share_names) c.in-max.is)
    (ap₂ (λ slot s. record { device = s.device; kind = s.kind; index_id = s.index_id; max = slot; own = s.own; store = s.store; views = s.views; pulls = s.pulls }) is.1 known ∙ ap (λ k. slots (with_member k d look)) (sym c.in-max.is)) is.2)
    (c.fill_leaf-in-max.ensures.value d rest stood)

pub returns-in-own-clause-value : goal.returns-in-own-clause-value
returns-in-own-clause-value c = λ look d rest known stood.
    let slots = share_slots c.args.version in
    reaches_so _ _ c.fill.result (λ filled is.
    fills share_names slots c.args.key.now d look _ _ _ rest filled is.0 (ap (λ k. is_among k share_names) c.in-own.is)
    (ap₂ (λ slot s. record { device = s.device; kind = s.kind; index_id = s.index_id; max = s.max; own = slot; store = s.store; views = s.views; pulls = s.pulls }) is.1 known ∙ ap (λ k. slots (with_member k d look)) (sym c.in-own.is)) is.2)
    (c.fill.ensures.value d rest stood)

pub returns-in-store-clause-value : goal.returns-in-store-clause-value
returns-in-store-clause-value c = λ look d rest known stood.
    let slots = share_slots c.args.version in
    reaches_so _ _ c.fill-in-store.result (λ filled is.
    fills share_names slots c.args.key.now d look _ _ _ rest filled is.0 (ap (λ k. is_among k share_names) c.in-store.is)
    (ap₂ (λ slot s. record { device = s.device; kind = s.kind; index_id = s.index_id; max = s.max; own = s.own; store = slot; views = s.views; pulls = s.pulls }) is.1 known ∙ ap (λ k. slots (with_member k d look)) (sym c.in-store.is)) is.2)
    (c.fill-in-store.ensures.value d rest stood)

pub returns-in-views-clause-value : goal.returns-in-views-clause-value
returns-in-views-clause-value c = λ look d rest known stood.
    let slots = share_slots c.args.version in
    reaches_so _ _ c.fill-in-views.result (λ filled is.
    fills share_names slots c.args.key.now d look _ _ _ rest filled is.0 (ap (λ k. is_among k share_names) c.in-views.is)
    (ap₂ (λ slot s. record { device = s.device; kind = s.kind; index_id = s.index_id; max = s.max; own = s.own; store = s.store; views = slot; pulls = s.pulls }) is.1 known ∙ ap (λ k. slots (with_member k d look)) (sym c.in-views.is)) is.2)
    (c.fill-in-views.ensures.value d rest stood)

pub returns-in-pulls-clause-value : goal.returns-in-pulls-clause-value
returns-in-pulls-clause-value c = λ look d rest known stood.
    let slots = share_slots c.args.version in
    reaches_so _ _ c.fill-in-pulls.result (λ filled is.
    fills share_names slots c.args.key.now d look _ _ _ rest filled is.0 (ap (λ k. is_among k share_names) c.in-pulls.is)
    (ap₂ (λ slot s. record { device = s.device; kind = s.kind; index_id = s.index_id; max = s.max; own = s.own; store = s.store; views = s.views; pulls = slot }) is.1 known ∙ ap (λ k. slots (with_member k d look)) (sym c.in-pulls.is)) is.2)
    (c.fill-in-pulls.ensures.value d rest stood)

pub returns-in_default-clause-value : goal.returns-in_default-clause-value
returns-in_default-clause-value c = λ look d rest known stood. let key = c.args.key.now in ((neither _ _ (other_name (codes "device") key c.in_default.not-device) (neither _ _ (other_name (codes "kind") key c.in_default.not-kind) (neither _ _ (other_name (codes "index_id") key c.in_default.not-index_id) (neither _ _ (other_name (codes "max") key c.in_default.not-max) (neither _ _ (other_name (codes "own") key c.in_default.not-own) (neither _ _ (other_name (codes "store") key c.in_default.not-store) (neither _ _ (other_name (codes "views") key c.in_default.not-views) (neither _ _ (other_name (codes "pulls") key c.in_default.not-pulls) refl)))))))), refl)
