-- What is logged of an action (this project's profile).
use Rattle.std.specs.Prelude.{ℕ, Bool, true, false, Option, Some, None, Result, Ok, Err, if◌then◌else◌}
use Rattle.bep_machine.specs.declared.logged.Logged.{Logged}
use Rattle.bep_machine.specs.declared.logged.Traffic.{Traffic}
use Rattle.bep_machine.specs.declared.moved.Moved.{Moved}
use Rattle.bep_machine.specs.declared.step.Step.{Step}
use Rattle.bep_machine.specs.Halves.{failed_told}
use Rattle.bep_peer.specs.declared.error.PeerError.{PeerError}
use Rattle.bep_peer.specs.declared.trace.Trace.{Trace}

-- the step's event: which call of the store failed, if it is one that the event tells of, and what was done over a link
abbrev pub event_of : Step → Option ℕ → Bool → Option Traffic → Logged
event_of step failed kept traffic = record { step = step; failed = failed_told step kept traffic failed; kept = kept; traffic = traffic }

-- What is logged of a step in a folder that answered and told this: its event, where it was done, or kept a copy and then
-- failed; else nothing.
abbrev pub event_told : Step → Result Moved PeerError → Trace → Option Logged
event_told step (Ok moved) told = Some (event_of step told.failed false None)
event_told step (Err error) told = if told.copied then Some (event_of step told.failed true None) else None
