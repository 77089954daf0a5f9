-- What has a log is what the configuration names.
use Rattle.std.proofs.Common.{◌≡◌, Bool, true, false, nat_lt, if◌then◌else◌, List, [], ◌∷◌, map, Contains, sym, subst, inl, inr, ⊎_elim}
use Rattle.std.specs.Coded.{coded_ℕ, coded×}
use Rattle.std.proofs.lemmas.List.Elements.{Contains-append_cases, Contains-append_left, Contains-append_right}
use Rattle.bep_facts.specs.Decided.{OrNot}
use Rattle.bep_facts.specs.Members.{Contains-first, Contains-from_image, Contains-image, Contains-more}
use Rattle.bep_model.specs.Tables.{Device}
use Rattle.bep_machine.specs.Cluster.{Config}
use Rattle.bep_machine.specs.HalfLaws.{AreHeld}
use Rattle.bep_machine.specs.Halves.{Guards, OfDevice, OfDeviceAndLink, OfLink, OfDeviceAndLinks}
use Rattle.bep_machine.specs.Steps.{AreLinked}
use Rattle.bep_fit.specs.declared.object.Object.{Object}
use Rattle.bep_fit.specs.declared.object.Object.TheVariants as objects
use Rattle.bep_fit.specs.Logs.{HasLog, ObjectLog, link_of, named_by}
use Rattle.bep_fit.specs.Replayed.{objects_of}
use Rattle.bep_fit.proofs.Deciding.{stands_or_not}

abbrev object_of : ObjectLog → Object
object_of log = log.object

abbrev of_device : Device → Object
of_device device = objects.Device device

abbrev of_link : Device × Device → Object
of_link ends = objects.Link ends.0 ends.1

module _ (config : Config) where
  pub device_or_not : (device : Device) → OrNot (Contains config.devices device)
  device_or_not = stands_or_not coded_ℕ config.devices

  pub link_or_not : (lower upper : Device) → OrNot (Contains config.links (lower, upper))
  link_or_not lower upper = stands_or_not (coded× coded_ℕ coded_ℕ) config.links (lower, upper)

  -- ---- among the objects

  device_listed : (device : Device) → Contains (objects_of config) (objects.Device device) → Contains config.devices device
  device_listed device listed =
      ⊎_elim
      (λ among. let found = Contains-from_image of_device config.devices (objects.Device device) among in let same : found.0 ≡ device = let is : objects.Device found.0 ≡ objects.Device device = found.2 in cc in subst (Contains config.devices) same found.1)
      (λ among. let found = Contains-from_image of_link config.links (objects.Device device) among in let is : objects.Link found.0.0 found.0.1 ≡ objects.Device device = found.2 in absurd (cc))
      (Contains-append_cases (map of_device config.devices) (map of_link config.links) (objects.Device device) listed)

  link_listed : (lower upper : Device) → Contains (objects_of config) (objects.Link lower upper) → Contains config.links (lower, upper)
  link_listed lower upper listed =
      ⊎_elim
      (λ among. let found = Contains-from_image of_device config.devices (objects.Link lower upper) among in let is : objects.Device found.0 ≡ objects.Link lower upper = found.2 in absurd (cc))
      (λ among.
      let found = Contains-from_image of_link config.links (objects.Link lower upper) among in
      let is : objects.Link found.0.0 found.0.1 ≡ objects.Link lower upper = found.2 in
      let lower_same : found.0.0 ≡ lower = cc in
      let upper_same : found.0.1 ≡ upper = cc in
      let same : found.0 ≡ (lower, upper) = λ i. (lower_same i, upper_same i) in
      subst (Contains config.links) same found.1)
      (Contains-append_cases (map of_device config.devices) (map of_link config.links) (objects.Link lower upper) listed)

  -- ---- objects that have a log

  module _ (logs : List ObjectLog) (all : map object_of logs ≡ objects_of config) where
    listed_with_log : (object : Object) → HasLog logs object → Contains (objects_of config) object
    listed_with_log object (log, there, is) = subst (λ os. Contains os object) all (subst (Contains (map object_of logs)) is (Contains-image object_of logs log there))

    pub device_there : (device : Device) → HasLog logs (objects.Device device) → Contains config.devices device
    device_there device has = device_listed device (listed_with_log (objects.Device device) has)

    pub link_there : (lower upper : Device) → HasLog logs (objects.Link lower upper) → Contains config.links (lower, upper)
    link_there lower upper has = link_listed lower upper (listed_with_log (objects.Link lower upper) has)

    has_log : (object : Object) → Contains (objects_of config) object → HasLog logs object
    has_log object listed = Contains-from_image object_of logs object (subst (λ os. Contains os object) (sym all) listed)

    pub device_has_log : (device : Device) → Contains config.devices device → HasLog logs (objects.Device device)
    device_has_log device there =
        has_log (objects.Device device) (Contains-append_left (map of_device config.devices) (map of_link config.links) (objects.Device device) (Contains-image of_device config.devices device there))

    pub link_has_log : (lower upper : Device) → Contains config.links (lower, upper) → HasLog logs (objects.Link lower upper)
    link_has_log lower upper there =
        has_log (objects.Link lower upper) (Contains-append_right (map of_device config.devices) (map of_link config.links) (objects.Link lower upper) (Contains-image of_link config.links (lower, upper) there))

    -- ---- what a step holds

    linked_there : (device other : Device) → HasLog logs (link_of device other) → AreLinked config device other
    linked_there device other = cases (nat_lt device other)
      where
        cases : (b : Bool) → HasLog logs (if b then objects.Link device other else objects.Link other device) → AreLinked config device other
        cases true has = inl (link_there device other has)
        cases false has = inr (link_there other device has)

    pub are_held : (guards : Guards) → ((object : Object) → Contains (named_by guards) object → HasLog logs object) → AreHeld config guards
    are_held (OfDevice device) there = device_there device (there (objects.Device device) (Contains-first (objects.Device device) []))
    are_held (OfDeviceAndLink device other) there = (
      device_there device (there (objects.Device device) (Contains-first (objects.Device device) (link_of device other ∷ []))),
      linked_there device other (there (link_of device other) (Contains-more (objects.Device device) (link_of device other ∷ []) (link_of device other) (Contains-first (link_of device other) []))),
    )
    are_held (OfLink lower upper) there = link_there lower upper (there (objects.Link lower upper) (Contains-first (objects.Link lower upper) []))
    are_held (OfDeviceAndLinks device) there = device_there device (there (objects.Device device) (Contains-first (objects.Device device) []))
