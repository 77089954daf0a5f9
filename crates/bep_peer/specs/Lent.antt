-- What a device does over a link that it is lent: a step of the cluster that these two are (this project's profile).
use Rattle.std.specs.Prelude.{◌≡◌, ◌⊎◌, ⊤, true, false, Option, Some, None, Contains}
use Rattle.std.specs.FinMap.{insert, remove}
use Rattle.bep_model.specs.Tables.{Device, Folder}
use Rattle.bep_machine.specs.declared.message.Message.{Message}
use Rattle.bep_machine.specs.declared.refusal.Refusal.TheVariants.{NotShared}
use Rattle.bep_machine.specs.Answer.{Answer, Refused, OutOfMemory, Row, ◌answers◌when◌else◌}
use Rattle.bep_machine.specs.Link.{End, Sight, end_of, sight_of, after_deed}
use Rattle.bep_machine.specs.Replica.{ByDevice}
use Rattle.bep_machine.specs.Peer.{Session, Peer, Acted}
use Rattle.bep_machine.specs.Exchange.{HasSession, SharesWith}
use Rattle.bep_links.specs.Link.{LinkBetween}
use Rattle.bep_peer.specs.Member.{Member, tables_of, nothing_told, untold}

-- a device, and a link that it is lent
pub record Lent : Type 0 where
  pub member : Member
  pub link : LinkBetween

-- the link joins the device with that other one, and the device has a link with it
pub record Joins (lent : Lent) (other : Device) : Type 0 where
  pub ends : (lent.link.ends ≡ (lent.member.number, other)) ⊎ (lent.link.ends ≡ (other, lent.member.number))
  pub linked : Contains lent.member.linked other

-- all that the step names is at hand
abbrev pub IsAtHand : (Device → Peer → Type 0) → Lent → Type 0
IsAtHand shares lent = (other : Device) × Joins lent other × shares other (tables_of lent.member)

-- a step that names no folder
abbrev pub NamesNone : Device → Peer → Type 0
NamesNone other peer = ⊤

-- a step that names this folder
abbrev pub NamesFolder : Folder → Device → Peer → Type 0
NamesFolder folder other peer = SharesWith other peer folder

-- a message that was sent is told of twice
abbrev pub twice : Option Message → Option (Message × Message)
twice None = None
twice (Some message) = Some (message, message)

-- The device made the row at its end of the link: its tables are the row's, the link carries what the row did to it, and
-- what was sent is told.
pub record Acts (row : Sight → Peer → Row Acted) (end : End) (old new : Lent) (answer : Answer) : Type 0 where
  pub acted : Acted
  pub made : row (sight_of end old.link.link) (tables_of old.member) acted answer
  pub tables : tables_of new.member ≡ acted.peer
  pub carried : new.link ≡ record old.link { link = after_deed end acted.deed old.link.link }
  pub told : new.member.trace.put ≡ twice acted.deed.sends

-- as before, with nothing told
abbrev pub untold_over : Lent → Lent
untold_over lent = record lent { member = untold lent.member }

-- Nothing was done: the tables and the link are as before, and nothing was sent. (A file may have been read.)
pub record IsLeft (old new : Lent) : Type 0 where
  pub tables : tables_of new.member ≡ tables_of old.member
  pub link : new.link ≡ old.link
  pub silent : new.member.trace.put ≡ None

-- Memory may be wanting, and nothing was done then. Else the step is refused where something that it names isn't at hand,
-- or the device makes the row at its end of the link.
abbrev pub StepOver : (Device → Sight → Peer → Row Acted) → (Device → Peer → Type 0) → Lent → Row Lent
StepOver row shares old new answer =
    (IsLeft old new × (answer ≡ OutOfMemory)) ⊎
    (untold_over old answers Refused NotShared when ¬ IsAtHand shares old else
    (λ new answer. (other : Device) × Joins old other × Acts (row other) (end_of old.member.number other) old new answer)) new answer

-- the sessions alone change, and the message that was sent is told: no call of a store was made
abbrev pub OnlySessions : Member → Member → Type 0
OnlySessions old new = new ≡ record old { sessions = new.sessions; trace = record nothing_told { put = new.trace.put } }

-- ---- beginning a session

-- the link is up with room for a message, and there is no session of its epoch
pub record IsOpenTo (other : Device) (sight : Sight) (peer : Peer) : Type 0 where
  pub up : sight.up ≡ true
  pub fresh : ¬ HasSession other sight peer
  pub room : sight.full ≡ false

-- the other device has the session that it had before, if it had one
abbrev pub with_before : ByDevice Session → Device → Option Session → ByDevice Session
with_before sessions other None = remove sessions other
with_before sessions other (Some session) = insert sessions other session
