-- A link with its log: what it was, what became of it since, and what it is (this project's profile).
use Rattle.std.specs.Prelude.{◌≡◌, ◌<◌, ◌≤◌, ⊤, ℕ, true, false, List, [], ◌∷◌, length, Option, Some, None, Result, Ok, Err, refl}
use Rattle.std.specs.Coded.{Coded, code_by, coded×, coded_ℕ, coded_list}
use Rattle.bep_model.specs.Tables.{Device}
use Rattle.bep_machine.specs.declared.logged.Logged.{Logged}
use Rattle.bep_machine.specs.declared.moved.Moved.TheVariants.{Changed}
use Rattle.bep_machine.specs.declared.step.Step.{Step}
use Rattle.bep_machine.specs.Answer.{Done, Refused as Refuses, Row}
use Rattle.bep_machine.specs.Halves.{guards_of, touches_link, LinkReplays}
use Rattle.bep_machine.specs.Link.{Link}
use Rattle.bep_links.specs.Link.{LinkBetween}
use Rattle.bep_log.specs.declared.error.LogError.{LogError}
use Rattle.bep_log.specs.declared.error.LogError.TheVariants.{TicketOld, LogFull, Refused, Stale, Memory}
use Rattle.bep_fit.specs.declared.stamped.Stamped.{Stamped}
use Rattle.bep_log.specs.declared.limits.TheConstants.{MAX_EVENTS}
use Rattle.bep_log.specs.Event.{event_of}
use Rattle.bep_fit.specs.Logs.{events_of}
use Rattle.bep_log.specs.History.{MayLog, last_with, with_events}

-- a link: as it is, as it was when its log began, the events since, their round, and the last ticket that was taken
pub record LoggedBetween : Type 0 where
  pub now : LinkBetween
  pub base : LinkBetween
  pub log : List Stamped
  pub round : ℕ
  pub last : ℕ

-- it is stored as its parts, by the codes of a link and of an event with its ticket
abbrev pub logged_link_code : Coded LinkBetween → Coded Stamped → Coded LoggedBetween
logged_link_code link stamped =
    code_by (LinkBetween × (LinkBetween × (List Stamped × (ℕ × ℕ))))
    (coded× link (coded× link (coded× (coded_list stamped) (coded× coded_ℕ coded_ℕ))))
    (λ m. (m.now, (m.base, (m.log, (m.round, m.last)))))
    (λ p. record { now = p.0; base = p.1.0; log = p.1.1.0; round = p.1.1.1.0; last = p.1.1.1.1 })
    (λ _. refl)

-- each event touches the link between these two devices
abbrev pub TouchLink : Device × Device → List Stamped → Type 0
TouchLink ends [] = ⊤
TouchLink ends (one ∷ more) = (touches_link (guards_of one.event.step) ends.0 ends.1 ≡ true) × TouchLink ends more

-- the link is what the events make of what it was, and each of them touches it
pub record IsLinkReplayed (now base : LinkBetween) (log : List Stamped) : Type 0 where
  pub ends : base.ends ≡ now.ends
  pub replays : LinkReplays now.ends.0 now.ends.1 base.link (events_of log) now.link
  pub touch : TouchLink now.ends log

-- ---- what an action leaves

-- the log goes on from the same base, and this stands in it as its last event, under the ticket, if anything was logged
pub record LinkTells (ticket : ℕ) (event : Option Logged) (old new : LoggedBetween) : Type 0 where
  pub base : new.base ≡ old.base
  pub round : new.round ≡ old.round
  pub log : new.log ≡ with_events old.log ticket event
  pub last : new.last ≡ last_with old.last ticket event

-- What becomes of the link under a ticket: `TicketOld` comes first, then `LogFull`; else the link makes the row, and where it
-- is done, the step's event is logged. Anything else changes nothing.
abbrev pub LinkLogs : Step → (Link → Row Link) → ℕ → LoggedBetween → LoggedBetween → Result (Unit {0}) LogError → Type 0
LinkLogs step row ticket old new (Ok _) =
    MayLog ticket old.log old.last × row old.now.link new.now.link (Done Changed) × (new.now.ends ≡ old.now.ends) × LinkTells ticket (Some (event_of step None false None)) old new
LinkLogs step row ticket old new (Err TicketOld) = (ticket ≤ old.last) × (new ≡ old)
LinkLogs step row ticket old new (Err LogFull) = (old.last < ticket) × (MAX_EVENTS ≤ length old.log) × (new ≡ old)
LinkLogs step row ticket old new (Err (Refused refusal)) = MayLog ticket old.log old.last × row old.now.link new.now.link (Refuses refusal) × (new ≡ old)
LinkLogs step row ticket old new (Err Stale) = ⊥
LinkLogs step row ticket old new (Err Memory) = MayLog ticket old.log old.last × (new ≡ old)
