-- The logs of the devices and links of a run, and what an event of them touches (this project's profile).
use Rattle.std.specs.Prelude.{◌≡◌, ℕ, Bool, List, [], ◌∷◌, map, nat_lt, if◌then◌else◌, Contains}
use Rattle.bep_model.specs.Tables.{Device}
use Rattle.bep_machine.specs.declared.logged.Logged.{Logged}
use Rattle.bep_machine.specs.Halves.{Guards, OfDevice, OfDeviceAndLink, OfLink, OfDeviceAndLinks, guards_of, touches_device, touches_link}
use Rattle.bep_fit.specs.declared.object.Object.{Object}
use Rattle.bep_fit.specs.declared.object.Object.TheVariants as objects
use Rattle.bep_fit.specs.declared.stamped.Stamped.{Stamped}

-- what is logged of an object since its base, each event with its ticket; and the round of that base
pub record ObjectLog : Type 0 where
  pub object : Object
  pub round : ℕ
  pub events : List Stamped

-- the events without their tickets
abbrev pub events_of : List Stamped → List Logged
events_of stamped = map (λ (one : Stamped). one.event) stamped

-- whether the object is among those that are held while a step is made
abbrev pub touches_object : Guards → Object → Bool
touches_object guards (objects.Device device) = touches_device guards device
touches_object guards (objects.Link lower upper) = touches_link guards lower upper

-- whether the event touches the object of the log
abbrev pub touches : Stamped → ObjectLog → Bool
touches one log = touches_object (guards_of one.event.step) log.object

-- the link between two devices, whichever is named first
abbrev pub link_of : Device → Device → Object
link_of device other = if nat_lt device other then objects.Link device other else objects.Link other device

-- What a step names of what it touches. A restart names its device alone: it touches those links of it that are there.
abbrev pub named_by : Guards → List Object
named_by (OfDevice device) = objects.Device device ∷ []
named_by (OfDeviceAndLink device other) = objects.Device device ∷ link_of device other ∷ []
named_by (OfLink lower upper) = objects.Link lower upper ∷ []
named_by (OfDeviceAndLinks device) = objects.Device device ∷ []

abbrev pub named : Stamped → List Object
named one = named_by (guards_of one.event.step)

-- the object has one of the logs
abbrev pub HasLog : List ObjectLog → Object → Type 0
HasLog logs object = (log : ObjectLog) × Contains logs log × (log.object ≡ object)
