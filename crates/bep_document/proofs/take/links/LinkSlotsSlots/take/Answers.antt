use Rattle.std.proofs.Common.{◌∙◌, sym, ap, ap₂}
use Rattle.bep_tree.specs.Names.{is_among}
use Rattle.bep_tree.proofs.Walking.{reaches_so}
use Rattle.bep_json.specs.Taking.{with_member}
use Rattle.bep_json.proofs.TakingFacts.{fills}
use Rattle.bep_document.specs.inner.Links.{link_names, link_slots}
use Rattle.bep_document.proofs.take.links.LinkSlotsSlots.take.Goals as goal

pub returns-in-a-clause-value : goal.returns-in-a-clause-value
returns-in-a-clause-value c = λ look d rest known stood.
    let slots = link_slots c.args.version in
    reaches_so _ _ c.fill_leaf.result (λ filled is.
    fills link_names slots c.args.key.now d look _ _ _ rest filled is.0 (ap (λ k. is_among k link_names) c.in-a.is)
    (ap₂ (λ slot s. record { a = slot; b = s.b; up = s.up; epoch = s.epoch; to_a = s.to_a; to_b = s.to_b }) is.1 known ∙ ap (λ k. slots (with_member k d look)) (sym c.in-a.is)) is.2)
    (c.fill_leaf.ensures.value d rest stood)

pub returns-in-b-clause-value : goal.returns-in-b-clause-value
returns-in-b-clause-value c = λ look d rest known stood.
    let slots = link_slots c.args.version in
    reaches_so _ _ c.fill_leaf-in-b.result (λ filled is.
    fills link_names slots c.args.key.now d look _ _ _ rest filled is.0 (ap (λ k. is_among k link_names) c.in-b.is)
    (ap₂ (λ slot s. record { a = s.a; b = slot; up = s.up; epoch = s.epoch; to_a = s.to_a; to_b = s.to_b }) is.1 known ∙ ap (λ k. slots (with_member k d look)) (sym c.in-b.is)) is.2)
    (c.fill_leaf-in-b.ensures.value d rest stood)

pub returns-in-up-clause-value : goal.returns-in-up-clause-value
returns-in-up-clause-value c = λ look d rest known stood.
    let slots = link_slots c.args.version in
    reaches_so _ _ c.fill_leaf-in-up.result (λ filled is.
    fills link_names slots c.args.key.now d look _ _ _ rest filled is.0 (ap (λ k. is_among k link_names) c.in-up.is)
    (ap₂ (λ slot s. record { a = s.a; b = s.b; up = slot; epoch = s.epoch; to_a = s.to_a; to_b = s.to_b }) is.1 known ∙ ap (λ k. slots (with_member k d look)) (sym c.in-up.is)) is.2)
    (c.fill_leaf-in-up.ensures.value d rest stood)

pub returns-in-epoch-clause-value : goal.returns-in-epoch-clause-value
returns-in-epoch-clause-value c = λ look d rest known stood.
    let slots = link_slots c.args.version in
    reaches_so _ _ c.fill_leaf-in-epoch.result (λ filled is.
    fills link_names slots c.args.key.now d look _ _ _ rest filled is.0 (ap (λ k. is_among k link_names) c.in-epoch.is)
    (ap₂ (λ slot s. record { a = s.a; b = s.b; up = s.up; epoch = slot; to_a = s.to_a; to_b = s.to_b }) is.1 known ∙ ap (λ k. slots (with_member k d look)) (sym c.in-epoch.is)) is.2)
    (c.fill_leaf-in-epoch.ensures.value d rest stood)

pub returns-in-to_a-clause-value : goal.returns-in-to_a-clause-value
returns-in-to_a-clause-value c = λ look d rest known stood.
    let slots = link_slots c.args.version in
    reaches_so _ _ c.fill.result (λ filled is.
    fills link_names slots c.args.key.now d look _ _ _ rest filled is.0 (ap (λ k. is_among k link_names) c.in-to_a.is)
    (ap₂ (λ slot s. record { a = s.a; b = s.b; up = s.up; epoch = s.epoch; to_a = slot; to_b = s.to_b }) is.1 known ∙ ap (λ k. slots (with_member k d look)) (sym c.in-to_a.is)) is.2)
    (c.fill.ensures.value d rest stood)

pub returns-in-to_b-clause-value : goal.returns-in-to_b-clause-value
returns-in-to_b-clause-value c = λ look d rest known stood.
    let slots = link_slots c.args.version in
    reaches_so _ _ c.fill-in-to_b.result (λ filled is.
    fills link_names slots c.args.key.now d look _ _ _ rest filled is.0 (ap (λ k. is_among k link_names) c.in-to_b.is)
    (ap₂ (λ slot s. record { a = s.a; b = s.b; up = s.up; epoch = s.epoch; to_a = s.to_a; to_b = slot }) is.1 known ∙ ap (λ k. slots (with_member k d look)) (sym c.in-to_b.is)) is.2)
    (c.fill-in-to_b.ensures.value d rest stood)
