use Rattle.std.proofs.Common.{◌∙◌, sym, ap, ap₂}
use Rattle.bep_tree.specs.Names.{is_among}
use Rattle.bep_tree.proofs.Walking.{reaches_so}
use Rattle.bep_json.specs.Taking.{with_member}
use Rattle.bep_json.proofs.TakingFacts.{fills}
use Rattle.bep_scenario.specs.inner.Members.{scenario_names, scenario_slots}
use Rattle.bep_scenario.proofs.members.ScenarioSlotsSlots.take.Goals as goal

pub returns-in-version-clause-value : goal.returns-in-version-clause-value
returns-in-version-clause-value c = λ look d rest known stood.
    let slots = scenario_slots c.args.version in
    reaches_so _ _ c.fill_leaf.result (λ filled is.
    fills scenario_names slots c.args.key.now d look _ _ _ rest filled is.0 (ap (λ k. is_among k scenario_names) c.in-version.is)
    (ap₂ (λ slot s. record { version = slot; folders = s.folders; links = s.links; steps = s.steps }) is.1 known ∙ ap (λ k. slots (with_member k d look)) (sym c.in-version.is)) is.2)
    (c.fill_leaf.ensures.value d rest stood)

pub returns-in-folders-clause-value : goal.returns-in-folders-clause-value
returns-in-folders-clause-value c = λ look d rest known stood.
    let slots = scenario_slots c.args.version in
    reaches_so _ _ c.fill.result (λ filled is.
    fills scenario_names slots c.args.key.now d look _ _ _ rest filled is.0 (ap (λ k. is_among k scenario_names) c.in-folders.is)
    (ap₂ (λ slot s. record { version = s.version; folders = slot; links = s.links; steps = s.steps }) is.1 known ∙ ap (λ k. slots (with_member k d look)) (sym c.in-folders.is)) is.2)
    (c.fill.ensures.value d rest stood)

pub returns-in-links-clause-value : goal.returns-in-links-clause-value
returns-in-links-clause-value c = λ look d rest known stood.
    let slots = scenario_slots c.args.version in
    reaches_so _ _ c.fill-in-links.result (λ filled is.
    fills scenario_names slots c.args.key.now d look _ _ _ rest filled is.0 (ap (λ k. is_among k scenario_names) c.in-links.is)
    (ap₂ (λ slot s. record { version = s.version; folders = s.folders; links = slot; steps = s.steps }) is.1 known ∙ ap (λ k. slots (with_member k d look)) (sym c.in-links.is)) is.2)
    (c.fill-in-links.ensures.value d rest stood)

pub returns-in-steps-clause-value : goal.returns-in-steps-clause-value
returns-in-steps-clause-value c = λ look d rest known stood.
    let slots = scenario_slots c.args.version in
    reaches_so _ _ c.fill-in-steps.result (λ filled is.
    fills scenario_names slots c.args.key.now d look _ _ _ rest filled is.0 (ap (λ k. is_among k scenario_names) c.in-steps.is)
    (ap₂ (λ slot s. record { version = s.version; folders = s.folders; links = s.links; steps = slot }) is.1 known ∙ ap (λ k. slots (with_member k d look)) (sym c.in-steps.is)) is.2)
    (c.fill-in-steps.ensures.value d rest stood)
