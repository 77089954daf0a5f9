-- What a device and its links leave in their logs when the device starts again, or over with empty indexes (this project's
-- profile).
use Rattle.std.specs.Prelude.{◌≡◌, ◌≢◌, ◌⊎◌, ◌<◌, ◌≤◌, ℕ, false, length, Some, None, Result, Ok, Err}
use Rattle.bep_model.specs.Tables.{Device}
use Rattle.bep_machine.specs.declared.refusal.Refusal.TheVariants.{IndexIdOld, NotShared}
use Rattle.bep_machine.specs.declared.step.Step.{Step}
use Rattle.bep_machine.specs.declared.step.Step.TheVariants as steps
use Rattle.bep_machine.specs.Link.{lost}
use Rattle.bep_machine.specs.Steps.{HasIdFrom, reset_to, restarted}
use Rattle.bep_peer.specs.Member.{Remains, tables_of, untold}
use Rattle.bep_log.specs.declared.error.LogError.{LogError}
use Rattle.bep_log.specs.declared.error.LogError.TheVariants.{TicketOld, LogFull, Refused, Memory}
use Rattle.bep_log.specs.declared.limits.TheConstants.{MAX_EVENTS}
use Rattle.bep_log.specs.Event.{event_of}
use Rattle.bep_log.specs.History.{MayLog}
use Rattle.bep_log.specs.LoggedPeer.{LoggedMember, Tells}
use Rattle.bep_log.specs.LoggedLink.{LinkTells, LoggedBetween}

-- the device starts again, and its event tells of it; or nothing changed
abbrev pub Restarts : ℕ → LoggedMember → LoggedMember → Result (Unit {0}) LogError → Type 0
Restarts ticket old new (Ok _) =
    MayLog ticket old.log old.last × (tables_of new.now ≡ restarted (tables_of old.now)) × Remains old.now new.now ×
    Tells ticket (Some (event_of (steps.Restart old.now.number) None false None)) old new
Restarts ticket old new (Err TicketOld) = (ticket ≤ old.last) × (new ≡ old)
Restarts ticket old new (Err LogFull) = (old.last < ticket) × (MAX_EVENTS ≤ length old.log) × (new ≡ old)
Restarts ticket old new (Err Memory) = MayLog ticket old.log old.last × (new ≡ old)
Restarts ticket old new (Err error) = ⊥

-- The device starts over under this id, and its event tells of it. It is refused where the id isn't above that of each of
-- its indexes, and all but what it tells is as before then; or nothing changed.
abbrev pub Resets : ℕ → ℕ → LoggedMember → LoggedMember → Result (Unit {0}) LogError → Type 0
Resets id ticket old new (Ok _) =
    MayLog ticket old.log old.last × (¬ HasIdFrom id (tables_of old.now)) × (tables_of new.now ≡ reset_to id (tables_of old.now)) × Remains old.now new.now ×
    Tells ticket (Some (event_of (steps.Reset old.now.number id) None false None)) old new
Resets id ticket old new (Err TicketOld) = (ticket ≤ old.last) × (new ≡ old)
Resets id ticket old new (Err LogFull) = (old.last < ticket) × (MAX_EVENTS ≤ length old.log) × (new ≡ old)
Resets id ticket old new (Err (Refused IndexIdOld)) =
    MayLog ticket old.log old.last × HasIdFrom id (tables_of old.now) × (new ≡ record old { now = untold old.now })
Resets id ticket old new (Err Memory) = MayLog ticket old.log old.last × (new ≡ old)
Resets id ticket old new (Err error) = ⊥

-- The link is lost if it was up, and its event tells of this step of the device; or nothing changed. The device has to be
-- at one of its ends.
abbrev pub LinkLeaves : Step → Device → ℕ → LoggedBetween → LoggedBetween → Result (Unit {0}) LogError → Type 0
LinkLeaves step device ticket old new (Ok _) =
    MayLog ticket old.log old.last × ((device ≡ old.now.ends.0) ⊎ (device ≡ old.now.ends.1)) × (new.now ≡ record old.now { link = lost old.now.link }) × LinkTells ticket (Some (event_of step None false None)) old new
LinkLeaves step device ticket old new (Err TicketOld) = (ticket ≤ old.last) × (new ≡ old)
LinkLeaves step device ticket old new (Err LogFull) = (old.last < ticket) × (MAX_EVENTS ≤ length old.log) × (new ≡ old)
LinkLeaves step device ticket old new (Err (Refused NotShared)) =
    MayLog ticket old.log old.last × (device ≢ old.now.ends.0) × (device ≢ old.now.ends.1) × (new ≡ old)
LinkLeaves step device ticket old new (Err Memory) = MayLog ticket old.log old.last × (new ≡ old)
LinkLeaves step device ticket old new (Err error) = ⊥

-- so of a device that starts again
abbrev pub LinkRestarts : Device → ℕ → LoggedBetween → LoggedBetween → Result (Unit {0}) LogError → Type 0
LinkRestarts device = LinkLeaves (steps.Restart device) device

-- and of one that starts over under this id; the link doesn't know which ids the device has
abbrev pub LinkResets : Device → ℕ → ℕ → LoggedBetween → LoggedBetween → Result (Unit {0}) LogError → Type 0
LinkResets device id = LinkLeaves (steps.Reset device id) device
