-- A device with its log: what it was, what it did since, and what it is (this project's profile).
use Rattle.std.specs.Prelude.{◌≡◌, ⊤, ℕ, true, List, [], ◌∷◌, Option, refl}
use Rattle.std.specs.Coded.{Coded, code_by, coded×, coded_ℕ, coded_list}
use Rattle.bep_model.specs.Tables.{Device}
use Rattle.bep_machine.specs.declared.logged.Logged.{Logged}
use Rattle.bep_machine.specs.Halves.{guards_of, touches_device, PeerReplays}
use Rattle.bep_peer.specs.Copied.{member_copied}
use Rattle.bep_peer.specs.Member.{Member, Remains, tables_of}
use Rattle.bep_fit.specs.declared.stamped.Stamped.{Stamped}
use Rattle.bep_fit.specs.Logs.{events_of}
use Rattle.bep_log.specs.History.{last_with, with_events}

-- a device: as it is, as it was when its log began, the events since, their round, and the last ticket that was taken
pub record LoggedMember : Type 0 where
  pub now : Member
  pub base : Member
  pub log : List Stamped
  pub round : ℕ
  pub last : ℕ

-- it is stored as its parts, by the codes of a member and of an event with its ticket
abbrev pub logged_code : Coded Member → Coded Stamped → Coded LoggedMember
logged_code member stamped =
    code_by (Member × (Member × (List Stamped × (ℕ × ℕ))))
    (coded× member (coded× member (coded× (coded_list stamped) (coded× coded_ℕ coded_ℕ))))
    (λ m. (m.now, (m.base, (m.log, (m.round, m.last)))))
    (λ p. record { now = p.0; base = p.1.0; log = p.1.1.0; round = p.1.1.1.0; last = p.1.1.1.1 })
    (λ _. refl)

-- each event touches the device
abbrev pub TouchDevice : Device → List Stamped → Type 0
TouchDevice device [] = ⊤
TouchDevice device (one ∷ more) = (touches_device (guards_of one.event.step) device ≡ true) × TouchDevice device more

-- the device is what the events make of what it was, and each of them touches it
pub record IsReplayed (now base : Member) (log : List Stamped) : Type 0 where
  pub number : base.number ≡ now.number
  pub linked : base.linked ≡ now.linked
  pub replays : PeerReplays now.number (tables_of base) (events_of log) (tables_of now)
  pub touch : TouchDevice now.number log

-- The device was taken, and its log begins: the device is as it was, and its base is a copy of it.
pub record IsBegun (was : Member) (made : LoggedMember) : Type 0 where
  pub tables : tables_of made.now ≡ tables_of was
  pub rest : Remains was made.now
  pub base : made.base ≡ member_copied was
  pub log : made.log ≡ []
  pub round : made.round ≡ 0
  pub last : made.last ≡ 0

-- the device as it is became its base, and the log is empty, in the given round; the last ticket stays
pub record IsRebased (given : ℕ) (old new : LoggedMember) : Type 0 where
  pub base : new.base ≡ member_copied old.now
  pub log : new.log ≡ []
  pub round : new.round ≡ given
  pub last : new.last ≡ old.last

-- ---- what an action leaves

-- the log goes on from the same base, and this stands in it as its last event, under the ticket, if anything was logged
pub record Tells (ticket : ℕ) (event : Option Logged) (old new : LoggedMember) : Type 0 where
  pub base : new.base ≡ old.base
  pub round : new.round ≡ old.round
  pub log : new.log ≡ with_events old.log ticket event
  pub last : new.last ≡ last_with old.last ticket event
