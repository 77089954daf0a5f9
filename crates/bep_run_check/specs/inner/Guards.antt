-- What a step touches, as the check computes it (this project's profile).
use Rattle.std.specs.Prelude.{◌==◌, ◌&&◌, Bool, false, List, Contains}
use Rattle.bep_model.specs.Tables.{Device}
use Rattle.bep_machine.specs.Halves as machine
use Rattle.bep_fit.specs.declared.object.Object.{Object}
use Rattle.bep_fit.specs.declared.object.Object.TheVariants as objects
use Rattle.bep_fit.specs.Logs.{HasLog, ObjectLog}
use Rattle.bep_run_check.specs.declared.guards.Guards.{Guards}
use Rattle.bep_run_check.specs.declared.guards.Guards.TheVariants.{OfDevice, OfDeviceAndLink, OfLink, OfDeviceAndLinks}

-- what these are
abbrev pub meant : Guards → machine.Guards
meant (OfDevice device) = machine.OfDevice device
meant (OfDeviceAndLink device other) = machine.OfDeviceAndLink device other
meant (OfLink lower upper) = machine.OfLink lower upper
meant (OfDeviceAndLinks device) = machine.OfDeviceAndLinks device

-- the object is this device, or this link
abbrev pub is_device : Object → Device → Bool
is_device (objects.Device one) device = one == device
is_device (objects.Link low high) device = false

abbrev pub is_link : Object → Device → Device → Bool
is_link (objects.Device one) lower upper = false
is_link (objects.Link low high) lower upper = (low == lower) && (high == upper)

-- the two are one object
abbrev pub is_same : Object → Object → Bool
is_same (objects.Device device) other = is_device other device
is_same (objects.Link lower upper) other = is_link other lower upper

-- each of these objects has a log
abbrev pub HaveLogs : List ObjectLog → List Object → Type 0
HaveLogs logs named = (object : Object) → Contains named object → HasLog logs object
