-- What becomes of an action under a ticket (this project's profile).
use Rattle.std.specs.Prelude.{◌<◌, ◌≤◌, ◌⊎◌, ℕ, List, length, Result, Ok, Err}
use Rattle.bep_peer.specs.declared.error.PeerError.{PeerError}
use Rattle.bep_peer.specs.declared.error.PeerError.TheVariants as peer
use Rattle.bep_log.specs.declared.error.LogError.{LogError}
use Rattle.bep_log.specs.declared.error.LogError.TheVariants.{TicketOld, LogFull, Refused, Stale, Memory}
use Rattle.bep_fit.specs.declared.stamped.Stamped.{Stamped}
use Rattle.bep_log.specs.declared.limits.TheConstants.{MAX_EVENTS}
use Rattle.bep_log.specs.History.{MayLog}

-- why no event can be logged under the ticket, or why there is no memory for one: the ticket comes first
abbrev pub WhyNotOpen : ℕ → List Stamped → ℕ → LogError → Type 0
WhyNotOpen ticket log last TicketOld = ticket ≤ last
WhyNotOpen ticket log last LogFull = (last < ticket) × (MAX_EVENTS ≤ length log)
WhyNotOpen ticket log last Memory = MayLog ticket log last
WhyNotOpen ticket log last error = ⊥

-- `TicketOld` comes first, then `LogFull`, and all is the same then. Else an event can be logged. Memory may be wanting
-- before the action is made, and all is the same then too; else the device acted, and answered so.
abbrev pub UnderTicket : {A : Type 0} → ℕ → List Stamped → ℕ → Type 0 → (Result A PeerError → Type 0) → Result A LogError → Type 0
UnderTicket ticket log last same acts (Ok done) = MayLog ticket log last × acts (Ok done)
UnderTicket ticket log last same acts (Err TicketOld) = (ticket ≤ last) × same
UnderTicket ticket log last same acts (Err LogFull) = (last < ticket) × (MAX_EVENTS ≤ length log) × same
UnderTicket ticket log last same acts (Err (Refused refusal)) = MayLog ticket log last × acts (Err (peer.Refused refusal))
UnderTicket ticket log last same acts (Err Stale) = MayLog ticket log last × acts (Err peer.Stale)
UnderTicket ticket log last same acts (Err Memory) = MayLog ticket log last × (same ⊎ acts (Err peer.Memory))
