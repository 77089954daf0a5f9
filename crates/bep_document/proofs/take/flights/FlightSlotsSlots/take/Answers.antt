use Rattle.std.proofs.Common.{◌∙◌, sym, ap, ap₂}
use Rattle.bep_tree.specs.Names.{is_among}
use Rattle.bep_tree.proofs.Walking.{reaches_so}
use Rattle.bep_json.specs.Taking.{with_member}
use Rattle.bep_json.proofs.TakingFacts.{fills}
use Rattle.bep_document.specs.inner.Flights.{flight_names, flight_slots}
use Rattle.bep_document.proofs.take.flights.FlightSlotsSlots.take.Goals as goal

pub returns-in-folder-clause-value : goal.returns-in-folder-clause-value
returns-in-folder-clause-value c = λ look d rest known stood.
    let slots = flight_slots c.args.version in
    reaches_so _ _ c.fill_leaf.result (λ filled is.
    fills flight_names slots c.args.key.now d look _ _ _ rest filled is.0 (ap (λ k. is_among k flight_names) c.in-folder.is)
    (ap₂ (λ slot s. record { folder = slot; full = s.full; records = s.records }) is.1 known ∙ ap (λ k. slots (with_member k d look)) (sym c.in-folder.is)) is.2)
    (c.fill_leaf.ensures.value d rest stood)

pub returns-in-full-clause-value : goal.returns-in-full-clause-value
returns-in-full-clause-value c = λ look d rest known stood.
    let slots = flight_slots c.args.version in
    reaches_so _ _ c.fill_leaf-in-full.result (λ filled is.
    fills flight_names slots c.args.key.now d look _ _ _ rest filled is.0 (ap (λ k. is_among k flight_names) c.in-full.is)
    (ap₂ (λ slot s. record { folder = s.folder; full = slot; records = s.records }) is.1 known ∙ ap (λ k. slots (with_member k d look)) (sym c.in-full.is)) is.2)
    (c.fill_leaf-in-full.ensures.value d rest stood)

pub returns-in-records-clause-value : goal.returns-in-records-clause-value
returns-in-records-clause-value c = λ look d rest known stood.
    let slots = flight_slots c.args.version in
    reaches_so _ _ c.fill.result (λ filled is.
    fills flight_names slots c.args.key.now d look _ _ _ rest filled is.0 (ap (λ k. is_among k flight_names) c.in-records.is)
    (ap₂ (λ slot s. record { folder = s.folder; full = s.full; records = slot }) is.1 known ∙ ap (λ k. slots (with_member k d look)) (sym c.in-records.is)) is.2)
    (c.fill.ensures.value d rest stood)
