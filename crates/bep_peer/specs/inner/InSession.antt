-- What a device does in a session over a link: what it needs first, and what is next (this project's profile).
use Rattle.std.specs.Prelude.{◌≡◌, ℕ, ⊤, true, false, Some}
use Rattle.std.specs.FinMap.{insert}
use Rattle.bep_record.specs.declared.entry.Entry.{Entry}
use Rattle.bep_record.specs.Content.{content_of}
use Rattle.bep_index.specs.declared.send.Plan.TheVariants.{Above}
use Rattle.bep_model.specs.Tables.{Device, Folder, FileName}
use Rattle.bep_machine.specs.declared.message.Message.{Message}
use Rattle.bep_machine.specs.declared.message.Request.{Request}
use Rattle.bep_machine.specs.declared.moved.Moved.TheVariants.{Changed}
use Rattle.bep_machine.specs.Answer.{Row, Done, Refused as Refuses}
use Rattle.bep_machine.specs.Link.{Sight, sending}
use Rattle.bep_machine.specs.Peer.{Session, Peer, Acted, idle, with_session}
use Rattle.bep_machine.specs.Replica.{Replica, viewed_at}
use Rattle.bep_machine.specs.Exchange.{IsInSession, IsNamed, AnnounceRow, AskRow}
use Rattle.bep_peer.specs.declared.error.PeerError.{PeerError}
use Rattle.bep_peer.specs.declared.error.PeerError.TheVariants.{Refused, Stale, Memory}
use Rattle.bep_peer.specs.Session.{IsNext, with_request}

-- the link is up, and this is the device's session over it
pub record IsOver (other : Device) (sight : Sight) (peer : Peer) (session : Session) : Type 0 where
  pub up : sight.up ≡ true
  pub current : IsInSession other sight peer session

-- what an action does without a session: it was refused before
abbrev pub NothingDone : Session → Row Acted
NothingDone session new answer = ⊥

-- the row refuses so, with nothing done; or memory is wanting, which no row says
abbrev pub MayRefuse : Row Acted → Peer → PeerError → Type 0
MayRefuse row peer (Refused refusal) = row (idle peer) (Refuses refusal)
MayRefuse row peer Stale = ⊥
MayRefuse row peer Memory = ⊤

-- ---- announcing records

-- the folder's records were sent up to this sequence
abbrev pub with_sent : Session → Folder → ℕ → Session
with_sent session folder sequence = record session { cursors = insert session.cursors folder (Above sequence) }

-- this message is the next that announces records, which are sent up to this sequence with it
pub record IsNextAnnounced (other : Device) (folder : Folder) (sight : Sight) (peer : Peer) (sequence : ℕ) (message : Message) : Type 0 where
  pub session : Session
  pub over : IsOver other sight peer session
  pub named : IsNamed session folder
  pub room : sight.full ≡ false
  pub made : AnnounceRow other folder sight peer (record { peer = with_session peer other (with_sent session folder sequence); deed = sending message }) (Done Changed)

-- ---- asking for a block

-- this request is the next of the session for a block of the file, and this its message
pub record IsNextAsked (other : Device) (folder : Folder) (name : FileName) (sight : Sight) (peer : Peer) (request : Request) (message : Message) : Type 0 where
  pub session : Session
  pub over : IsOver other sight peer session
  pub next : IsNext session request
  pub room : sight.full ≡ false
  pub made : AskRow other folder name sight peer (record { peer = with_session peer other (with_request session request); deed = sending message }) (Done Changed)

-- the device knows the other one to have this content under the name, not marked invalid
pub record IsOffered (other : Device) (name : FileName) (replica : Replica) (target : Entry) : Type 0 where
  pub viewed : Entry
  pub seen : viewed_at replica other name ≡ Some viewed
  pub valid : viewed.invalid ≡ false
  pub same : content_of viewed ≡ content_of target
