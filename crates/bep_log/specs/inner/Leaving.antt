-- A step in which a device leaves all its links (this project's profile).
use Rattle.std.specs.Prelude.{◌≡◌, true, false, None}
use Rattle.bep_model.specs.Tables.{Device}
use Rattle.bep_machine.specs.declared.step.Step.{Step}
use Rattle.bep_machine.specs.Halves.{OfDeviceAndLinks, guards_of, touches_link, LinkStep}
use Rattle.bep_machine.specs.Link.{Link, lost}
use Rattle.bep_log.specs.Event.{event_of}

-- the step touches the device and all its links, and what is logged of it loses each of these
abbrev pub LosesLinks : Device → Step → Type 0
LosesLinks device step =
    (guards_of step ≡ OfDeviceAndLinks device) ×
    ((lower upper : Device) (old : Link) → touches_link (OfDeviceAndLinks device) lower upper ≡ true → LinkStep lower upper (event_of step None false None) old (lost old))
