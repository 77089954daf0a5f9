-- The events of a log, each with the ticket under which it was made (this project's profile).
use Rattle.std.specs.Prelude.{◌<◌, ◌≤◌, ℕ, Bool, List, [], ◌∷◌, ◌++◌, length, map, Option, Some, None}
use Rattle.bep_machine.specs.declared.logged.Logged.{Logged}
use Rattle.bep_fit.specs.declared.stamped.Stamped.{Stamped}
use Rattle.bep_log.specs.declared.limits.TheConstants.{MAX_EVENTS}

-- a log, its round, and the last ticket that was taken; and whether the log has memory for one event more
pub record History : Type 0 where
  pub log : List Stamped
  pub round : ℕ
  pub last : ℕ
  pub room : Bool

-- each ticket is above the one before it, the first above `low`, and none is above `last`
abbrev pub RiseTo : ℕ → List Stamped → ℕ → Type 0
RiseTo low [] last = low ≤ last
RiseTo low (one ∷ more) last = (low < one.ticket) × RiseTo one.ticket more last

-- what holds of every log
pub record IsHistory (log : List Stamped) (last : ℕ) : Type 0 where
  pub rise : RiseTo 0 log last
  pub few : length log ≤ MAX_EVENTS

-- an event can be logged under the ticket: it is above the last one, and the log has room for an event more
pub record MayLog (ticket : ℕ) (log : List Stamped) (last : ℕ) : Type 0 where
  pub above : last < ticket
  pub few : length log < MAX_EVENTS

-- the log with this event as its last one
abbrev pub with_event : List Stamped → ℕ → Logged → List Stamped
with_event log ticket event = log ++ record { ticket = ticket; event = event } ∷ []

-- the log, and the last ticket, once this was made, if anything was
abbrev pub with_events : List Stamped → ℕ → Option Logged → List Stamped
with_events log ticket None = log
with_events log ticket (Some event) = with_event log ticket event

abbrev pub last_with : ℕ → ℕ → Option Logged → ℕ
last_with last ticket None = last
last_with last ticket (Some event) = ticket
