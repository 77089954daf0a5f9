-- What a seat has added, it claims.
use Rattle.std.proofs.Common.{◌≡◌, ◌&&◌, Bool, true, if◌then◌else◌, eqb, [], ◌∷◌, ◌++◌, map, Contains, refl, sym, ap, ◌∙◌, subst, eq-eqb}
use Rattle.std.specs.List.{flat_map}
use Rattle.std.proofs.lemmas.List.Elements.{Contains-append_right, Contains-push}
use Rattle.bep_facts.specs.Members.{Contains-first, Contains-flat_map, Contains-image}
use Rattle.bep_machine.specs.Halves.{Guards, OfDevice, OfDeviceAndLink, OfLink, OfDeviceAndLinks, guards_of}
use Rattle.bep_fit.specs.declared.object.Object.{Object}
use Rattle.bep_fit.specs.declared.object.Object.TheVariants as objects
use Rattle.bep_fit.specs.Logs.{link_of, named_by, touches_object}
use Rattle.bep_history.specs.declared.view.Row.{Row}
use Rattle.bep_history.specs.Laws.{AddedIsClaimed}
use Rattle.bep_history.specs.Parts.{is_about}
use Rattle.bep_history.specs.View.{row_with}

-- each step touches the first of what it names
first_named : (guards : Guards) → (object : Object) × Contains (named_by guards) object × (touches_object guards object ≡ true)
first_named (OfDevice device) = (objects.Device device, Contains-first (objects.Device device) [], eq-eqb device device refl)
first_named (OfDeviceAndLink device other) =
    (objects.Device device, Contains-first (objects.Device device) (link_of device other ∷ []), eq-eqb device device refl)
first_named (OfLink lower upper) =
    (objects.Link lower upper, Contains-first (objects.Link lower upper) [], ap (λ (b : Bool). b && eqb upper upper) (eq-eqb lower lower refl) ∙ eq-eqb upper upper refl)
first_named (OfDeviceAndLinks device) = (objects.Device device, Contains-first (objects.Device device) [], eq-eqb device device refl)

pub added_is_claimed_lem : AddedIsClaimed
added_is_claimed_lem listed old event may =
    let first = first_named (guards_of event.event.step) in
    let has = may.there first.0 first.1 in
    let about : is_about has.0.object event ≡ true = subst (λ o. is_about o event ≡ true) (sym has.2) first.2 in
    let ends : Contains (row_with event has.0).events event =
    subst (λ (b : Bool). Contains (if b then has.0.events ++ event ∷ [] else has.0.events) event) (sym about) (Contains-push has.0.events event) in
    Contains-append_right old.claims (flat_map (λ (one : Row). one.events) (map (row_with event) old.rows)) event
    (Contains-flat_map (λ (one : Row). one.events) (map (row_with event) old.rows) (row_with event has.0) event (Contains-image (row_with event) old.rows has.0 has.1) ends)
