use Rattle.std.specs.Prelude.{codes}
use Rattle.std.proofs.Common.{◌∙◌, refl, sym, ap, ap₂}
use Rattle.bep_tree.specs.Names.{is_among}
use Rattle.bep_tree.proofs.Walking.{reaches_so}
use Rattle.bep_json.specs.Taking.{with_member}
use Rattle.bep_json.proofs.TakingFacts.{fills, other_name, neither}
use Rattle.bep_json.specs.inner.Nodes.{node_names, node_slots}
use Rattle.bep_json.proofs.node_slots.NodeSlotsSlots.take.Goals as goal

pub returns-in-name-clause-value : goal.returns-in-name-clause-value
returns-in-name-clause-value c = λ look d rest known stood.
    let slots = node_slots c.args.version in
    reaches_so _ _ c.fill_leaf.result (λ filled is.
    fills node_names slots c.args.key.now d look _ _ _ rest filled is.0 (ap (λ k. is_among k node_names) c.in-name.is)
    (ap₂ (λ slot s. record { name = slot; kind = s.kind; modified_s = s.modified_s; modified_ns = s.modified_ns; text = s.text; hex = s.hex; target = s.target }) is.1 known ∙ ap (λ k. slots (with_member k d look)) (sym c.in-name.is)) is.2)
    (c.fill_leaf.ensures.value d rest stood)

pub returns-in-type-clause-value : goal.returns-in-type-clause-value
returns-in-type-clause-value c = λ look d rest known stood.
    let slots = node_slots c.args.version in
    reaches_so _ _ c.fill_leaf-in-type.result (λ filled is.
    fills node_names slots c.args.key.now d look _ _ _ rest filled is.0 (ap (λ k. is_among k node_names) c.in-type.is)
    (ap₂ (λ slot s. record { name = s.name; kind = slot; modified_s = s.modified_s; modified_ns = s.modified_ns; text = s.text; hex = s.hex; target = s.target }) is.1 known ∙ ap (λ k. slots (with_member k d look)) (sym c.in-type.is)) is.2)
    (c.fill_leaf-in-type.ensures.value d rest stood)

pub returns-in-modified_s-clause-value : goal.returns-in-modified_s-clause-value
returns-in-modified_s-clause-value c = λ look d rest known stood.
    let slots = node_slots c.args.version in
    reaches_so _ _ c.fill_leaf-in-modified_s.result (λ filled is.
    fills node_names slots c.args.key.now d look _ _ _ rest filled is.0 (ap (λ k. is_among k node_names) c.in-modified_s.is)
    (ap₂ (λ slot s. record { name = s.name; kind = s.kind; modified_s = slot; modified_ns = s.modified_ns; text = s.text; hex = s.hex; target = s.target }) is.1 known ∙ ap (λ k. slots (with_member k d look)) (sym c.in-modified_s.is)) is.2)
    (c.fill_leaf-in-modified_s.ensures.value d rest stood)

pub returns-in-modified_ns-clause-value : goal.returns-in-modified_ns-clause-value
returns-in-modified_ns-clause-value c = λ look d rest known stood.
    let slots = node_slots c.args.version in
    reaches_so _ _ c.fill_leaf-in-modified_ns.result (λ filled is.
    fills node_names slots c.args.key.now d look _ _ _ rest filled is.0 (ap (λ k. is_among k node_names) c.in-modified_ns.is)
    (ap₂ (λ slot s. record { name = s.name; kind = s.kind; modified_s = s.modified_s; modified_ns = slot; text = s.text; hex = s.hex; target = s.target }) is.1 known ∙ ap (λ k. slots (with_member k d look)) (sym c.in-modified_ns.is)) is.2)
    (c.fill_leaf-in-modified_ns.ensures.value d rest stood)

pub returns-in-text-clause-value : goal.returns-in-text-clause-value
returns-in-text-clause-value c = λ look d rest known stood.
    let slots = node_slots c.args.version in
    reaches_so _ _ c.fill_leaf-in-text.result (λ filled is.
    fills node_names slots c.args.key.now d look _ _ _ rest filled is.0 (ap (λ k. is_among k node_names) c.in-text.is)
    (ap₂ (λ slot s. record { name = s.name; kind = s.kind; modified_s = s.modified_s; modified_ns = s.modified_ns; text = slot; hex = s.hex; target = s.target }) is.1 known ∙ ap (λ k. slots (with_member k d look)) (sym c.in-text.is)) is.2)
    (c.fill_leaf-in-text.ensures.value d rest stood)

pub returns-in-hex-clause-value : goal.returns-in-hex-clause-value
returns-in-hex-clause-value c = λ look d rest known stood.
    let slots = node_slots c.args.version in
    reaches_so _ _ c.fill_leaf-in-hex.result (λ filled is.
    fills node_names slots c.args.key.now d look _ _ _ rest filled is.0 (ap (λ k. is_among k node_names) c.in-hex.is)
    (ap₂ (λ slot s. record { name = s.name; kind = s.kind; modified_s = s.modified_s; modified_ns = s.modified_ns; text = s.text; hex = slot; target = s.target }) is.1 known ∙ ap (λ k. slots (with_member k d look)) (sym c.in-hex.is)) is.2)
    (c.fill_leaf-in-hex.ensures.value d rest stood)

pub returns-in-target-clause-value : goal.returns-in-target-clause-value
returns-in-target-clause-value c = λ look d rest known stood.
    let slots = node_slots c.args.version in
    reaches_so _ _ c.fill_leaf-in-target.result (λ filled is.
    fills node_names slots c.args.key.now d look _ _ _ rest filled is.0 (ap (λ k. is_among k node_names) c.in-target.is)
    (ap₂ (λ slot s. record { name = s.name; kind = s.kind; modified_s = s.modified_s; modified_ns = s.modified_ns; text = s.text; hex = s.hex; target = slot }) is.1 known ∙ ap (λ k. slots (with_member k d look)) (sym c.in-target.is)) is.2)
    (c.fill_leaf-in-target.ensures.value d rest stood)

pub returns-in_default-clause-value : goal.returns-in_default-clause-value
returns-in_default-clause-value c = λ look d rest known stood. let key = c.args.key.now in ((neither _ _ (other_name (codes "name") key c.in_default.not-name) (neither _ _ (other_name (codes "type") key c.in_default.not-type) (neither _ _ (other_name (codes "modified_s") key c.in_default.not-modified_s) (neither _ _ (other_name (codes "modified_ns") key c.in_default.not-modified_ns) (neither _ _ (other_name (codes "text") key c.in_default.not-text) (neither _ _ (other_name (codes "hex") key c.in_default.not-hex) (neither _ _ (other_name (codes "target") key c.in_default.not-target) refl))))))), refl)
