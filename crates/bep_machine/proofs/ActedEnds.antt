-- A step over a link that isn't done does nothing to the device and to the link.
use Rattle.std.proofs.Common.{ℕ, Bool, Option, Some, None, inl, inr}
use Rattle.std.specs.FinMap.{get}
use Rattle.bep_index.specs.declared.send.Plan.{Plan}
use Rattle.bep_model.specs.Tables.{Device, Folder, FileName}
use Rattle.bep_machine.specs.declared.message.Message.{Message}
use Rattle.bep_machine.specs.declared.message.Request.{Request}
use Rattle.bep_machine.specs.declared.message.Response.{Response}
use Rattle.bep_machine.specs.declared.message.Message.TheVariants as messages
use Rattle.bep_machine.specs.Answer.{Answer, Row}
use Rattle.bep_machine.specs.Replica.{Replica}
use Rattle.bep_machine.specs.Link.{Sight}
use Rattle.bep_machine.specs.Peer.{Session, Peer, Acted, idle}
use Rattle.bep_machine.specs.Exchange.{SessionRow, BeginRow, AskedRow, asked_for, MessageRow, WaitingRow, DeliverRow, CursorRow, AnnounceRow, AskingRow, AskRow}
use Rattle.bep_machine.proofs.RowEnds.{Stays, stays_at, stays_done, stays_or}

-- what isn't done leaves the device idle
abbrev pub Rests : (Sight → Peer → Row Acted) → Type 0
Rests row = (sight : Sight) (old : Peer) (acted : Acted) (answer : Answer) → row sight old acted answer → Stays (idle old) acted answer

session_rests : (other : Device) (sight : Sight) (rest : Session → Row Acted) (old : Peer) (acted : Acted) (answer : Answer) → ((session : Session) → rest session acted answer → Stays (idle old) acted answer) → SessionRow other sight old rest acted answer → Stays (idle old) acted answer
session_rests other sight rest old acted answer more row = stays_or row (λ up. stays_or up (λ has. more has.0 has.2))

pub begin_rests : (other : Device) → Rests (BeginRow other)
begin_rests other sight old acted answer row = stays_or row (λ up. stays_or up (λ none. stays_or none (λ made. stays_done made)))

cursor_rests : (other : Device) (folder : Folder) (full : Bool) (session : Session) (cursor : Option Plan) (old : Peer) (acted : Acted) (answer : Answer) → CursorRow other folder full session cursor old acted answer → Stays (idle old) acted answer
cursor_rests other folder full session None old acted answer row = stays_at row
cursor_rests other folder full session (Some cursor) old acted answer row = stays_or row.2.2 (λ left. stays_or left (λ made. stays_done made))

pub announce_rests : (other : Device) (folder : Folder) → Rests (AnnounceRow other folder)
announce_rests other folder sight old acted answer =
    session_rests other sight (λ session. CursorRow other folder sight.full session (get session.cursors folder) old) old acted answer
    (λ session row. cursor_rests other folder sight.full session (get session.cursors folder) old acted answer row)

asking_rests : (other : Device) (folder : Folder) (name : FileName) (full : Bool) (session : Session) (old : Peer) (replica : Replica) (acted : Acted) (answer : Answer) → AskingRow other folder name full session old replica acted answer → Stays (idle old) acted answer
asking_rests other folder name full session old replica acted answer row = stays_or row (λ can. stays_or can (λ asks. stays_done asks.2))

pub ask_rests : (other : Device) (folder : Folder) (name : FileName) → Rests (AskRow other folder name)
ask_rests other folder name sight old acted answer row =
    stays_or row (λ up. stays_or up (λ has. asking_rests other folder name sight.full has.0 old has.2.0 acted answer has.2.2))

asked_rests : (other : Device) (session : Session) (response : Response) (asked : Option Request) (old : Peer) (acted : Acted) (answer : Answer) → AskedRow other session response asked old acted answer → Stays (idle old) acted answer
asked_rests other session response None old acted answer row = stays_done row
asked_rests other session response (Some request) old acted answer (inl right) = stays_done right.1
asked_rests other session response (Some request) old acted answer (inr wrong) = stays_done wrong.1

message_rests : (other : Device) (failed : Option ℕ) (full : Bool) (session : Session) (message : Message) (old : Peer) (acted : Acted) (answer : Answer) → MessageRow other failed full session message old acted answer → Stays (idle old) acted answer
message_rests other failed full session (messages.ClusterConfig named) old acted answer (inl good) = stays_done good.1
message_rests other failed full session (messages.ClusterConfig named) old acted answer (inr bad) = stays_done bad.1
message_rests other failed full session (messages.Index folder batch) old acted answer (inl named) = stays_or named.1.2 (λ made. stays_done made)
message_rests other failed full session (messages.Index folder batch) old acted answer (inr bad) = stays_done bad.1
message_rests other failed full session (messages.IndexUpdate folder batch) old acted answer (inl (named, (replica, is, inl late))) = stays_done late.1
message_rests other failed full session (messages.IndexUpdate folder batch) old acted answer (inl (named, (replica, is, inr new))) = stays_or new.1 (λ made. stays_done made)
message_rests other failed full session (messages.IndexUpdate folder batch) old acted answer (inr bad) = stays_done bad.1
message_rests other failed full session (messages.Request request) old acted answer (inl named) = stays_or named.1.2 (λ made. stays_done made.2)
message_rests other failed full session (messages.Request request) old acted answer (inr bad) = stays_done bad.1
message_rests other failed full session (messages.Response response) old acted answer row = asked_rests other session response (asked_for response.id session.outstanding) old acted answer row

waiting_rests : (other : Device) (failed : Option ℕ) (full : Bool) (session : Session) (waiting : Option Message) (old : Peer) (acted : Acted) (answer : Answer) → WaitingRow other failed full session waiting old acted answer → Stays (idle old) acted answer
waiting_rests other failed full session None old acted answer row = stays_at row
waiting_rests other failed full session (Some message) old acted answer row = message_rests other failed full session message old acted answer row

pub deliver_rests : (other : Device) (failed : Option ℕ) → Rests (DeliverRow other failed)
deliver_rests other failed sight old acted answer =
    session_rests other sight (λ session. WaitingRow other failed sight.full session sight.waiting old) old acted answer
    (λ session row. waiting_rests other failed sight.full session sight.waiting old acted answer row)
