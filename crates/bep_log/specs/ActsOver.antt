-- What a device does over a link under a ticket, and what is logged of it in both logs (this project's profile).
use Rattle.std.specs.Prelude.{◌≡◌, ◌<◌, ◌≤◌, ◌⊎◌, ℕ, Bool, false, length, List, Option, Some, None, option_map, Result, Ok, Err, IsErr}
use Rattle.bep_machine.specs.declared.logged.Logged.{Logged}
use Rattle.bep_machine.specs.declared.message.Message.{Message}
use Rattle.bep_machine.specs.declared.moved.Moved.{Moved}
use Rattle.bep_links.specs.Link.{LinkBetween}
use Rattle.bep_peer.specs.declared.error.PeerError.{PeerError}
use Rattle.bep_peer.specs.declared.error.PeerError.TheVariants as peer
use Rattle.bep_peer.specs.declared.trace.Trace.{Trace}
use Rattle.bep_peer.specs.Lent.{StepOver}
use Rattle.bep_peer.specs.Member.{Member, Remains, tables_of, untold}
use Rattle.bep_peer.specs.PeerError.{Gives}
use Rattle.bep_log.specs.declared.error.LogError.{LogError}
use Rattle.bep_log.specs.declared.error.LogError.TheVariants.{TicketOld, LogFull, Refused, Stale, Memory}
use Rattle.bep_log.specs.declared.ready.Ready.{Ready}
use Rattle.bep_fit.specs.declared.stamped.Stamped.{Stamped}
use Rattle.bep_log.specs.declared.limits.TheConstants.{MAX_EVENTS}
use Rattle.bep_log.specs.Event.{event_of}
use Rattle.bep_log.specs.History.{MayLog}
use Rattle.bep_log.specs.LoggedLink.{LinkTells, LoggedBetween}
use Rattle.bep_log.specs.LoggedPeer.{LoggedMember, Tells}
use Rattle.bep_log.specs.Over.{Doing, exchanged, in_epoch, ready_for}

-- what is logged in one of the two logs of an action that answered so, for which this was ready; what was sent, and whether
-- the link is still up, tell the rest
abbrev pub event_for : Ready → Result Moved PeerError → Option ℕ → Option Message → Bool → Option Logged
event_for ready (Err error) failed sent up = None
event_for ready (Ok moved) failed sent up = Some (event_of ready.step failed false (in_epoch ready.epoch (exchanged ready.taken sent up)))

-- What is logged of an action over a link that answered and told this: where it was done, its event, with the very messages
-- that it took and sent; else nothing.
abbrev pub event_over : Doing → Member → LinkBetween → LinkBetween → Trace → Result Moved PeerError → Option Logged
event_over action member old new told answer =
    event_for (ready_for action member.number old) answer told.failed (option_map (λ (put : Message × Message). put.0) told.put) new.link.up

-- The device made the action over the link, and one event tells of it in both logs, if it was done. After an error no table
-- and nothing of the link changed, and nothing was logged.
pub record ActsOver (action : Doing) (ticket : ℕ) (old new : LoggedMember) (link after : LoggedBetween) (answer : Result Moved PeerError) : Type 0 where
  -- the device as the action left it, before what it tells was taken
  pub left : Member
  pub now : new.now ≡ untold left
  pub made : Gives (StepOver (action.row left.trace.failed) action.shares (record { member = old.now; link = link.now })) (record { member = left; link = after.now }) answer
  pub rest : Remains old.now left
  pub kept : IsErr answer → (tables_of left ≡ tables_of old.now) × (after.now ≡ link.now)
  pub told : Tells ticket (event_over action old.now link.now after.now left.trace answer) old new
  pub link_told : LinkTells ticket (event_over action old.now link.now after.now left.trace answer) link after

-- an event can be logged under the ticket in both logs
pub record MayLogBoth (ticket : ℕ) (member : LoggedMember) (between : LoggedBetween) : Type 0 where
  pub device : MayLog ticket member.log member.last
  pub link : MayLog ticket between.log between.last

-- why no event can be logged under the ticket in both logs, or why there is no memory for one
abbrev pub WhyNotBoth : ℕ → List Stamped → ℕ → List Stamped → ℕ → LogError → Type 0
WhyNotBoth ticket log last more other TicketOld = (ticket ≤ last) ⊎ (ticket ≤ other)
WhyNotBoth ticket log last more other LogFull = (last < ticket) × (other < ticket) × ((MAX_EVENTS ≤ length log) ⊎ (MAX_EVENTS ≤ length more))
WhyNotBoth ticket log last more other Memory = MayLog ticket log last × MayLog ticket more other
WhyNotBoth ticket log last more other error = ⊥

-- nothing changed
pub record AreSame (old new : LoggedMember) (between after : LoggedBetween) : Type 0 where
  pub device : new ≡ old
  pub link : after ≡ between

-- An action over a link under a ticket: `TicketOld` comes first, where the ticket isn't above the last one of both logs, then
-- `LogFull`, where one of them is full, and nothing changed then. Else an event can be logged. Memory may be wanting before
-- the action is made, and nothing changed then too; else the device acted, and answered so.
abbrev pub LogsOver : Doing → ℕ → LoggedMember → LoggedMember → LoggedBetween → LoggedBetween → Result Moved LogError → Type 0
LogsOver action ticket old new link after (Ok moved) = MayLogBoth ticket old link × ActsOver action ticket old new link after (Ok moved)
LogsOver action ticket old new link after (Err TicketOld) = ((ticket ≤ old.last) ⊎ (ticket ≤ link.last)) × AreSame old new link after
LogsOver action ticket old new link after (Err LogFull) =
    (old.last < ticket) × (link.last < ticket) × ((MAX_EVENTS ≤ length old.log) ⊎ (MAX_EVENTS ≤ length link.log)) × AreSame old new link after
LogsOver action ticket old new link after (Err (Refused refusal)) = MayLogBoth ticket old link × ActsOver action ticket old new link after (Err (peer.Refused refusal))
LogsOver action ticket old new link after (Err Stale) = ⊥
LogsOver action ticket old new link after (Err Memory) =
    MayLogBoth ticket old link × (AreSame old new link after ⊎ ActsOver action ticket old new link after (Err peer.Memory))
