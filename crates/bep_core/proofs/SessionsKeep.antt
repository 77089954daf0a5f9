-- A step over a link changes nothing of which folders a device has, of their kinds, and of who shares them.
use Rattle.std.proofs.Common.{◌≡◌, ℕ, Bool, List, [], ◌∷◌, Option, Some, None, refl, ◌∙◌}
use Rattle.std.specs.FinMap.{get}
use Rattle.bep_map.specs.NameMap.{ByName}
use Rattle.bep_index.specs.Listing.{Listing}
use Rattle.bep_index.specs.declared.send.Plan.{Plan}
use Rattle.bep_model.specs.Tables.{Device, Folder, FileName}
use Rattle.bep_machine.specs.declared.message.Announced.{Announced}
use Rattle.bep_machine.specs.declared.message.Message.{Message}
use Rattle.bep_machine.specs.declared.message.Message.TheVariants as messages
use Rattle.bep_machine.specs.declared.message.Request.{Request}
use Rattle.bep_machine.specs.declared.message.Response.{Response}
use Rattle.bep_machine.specs.Answer.{Row}
use Rattle.bep_machine.specs.Exchange.{SessionRow, ReplicaRow, BeginRow, LosingRow, ViewRow, RequestRow, AskedRow, AnsweredRow, MessageRow, WaitingRow, DeliverRow, SendingRow, CursorRow, AnnounceRow, AskingRow, AskRow, renewed, all_renewed, with_block, with_received, without}
use Rattle.bep_machine.specs.Link.{Sight}
use Rattle.bep_machine.specs.Peer.{Peer, Acted, Session, idle, with_session}
use Rattle.bep_machine.specs.Replica.{Pull, Replica, pull_at}
use Rattle.bep_peer.proofs.Keeping.{Keeping, becoming, refusing, either}
use Rattle.bep_peer.proofs.RowsKeep.{outline}
use Rattle.bep_core.proofs.SameFolders.{SameFolders, folder_changed}

-- the device has the same folders as before
abbrev pub HasSame : Peer → Acted → Type 0
HasSame old new = SameFolders old.replicas new.peer.replicas

abbrev pub KeepsFolders : Peer → Row Acted → Type 0
KeepsFolders old row = Keeping (HasSame old) row

unchanged : (replicas : ByName Replica) → SameFolders replicas replicas
unchanged replicas folder = refl

-- ---- in a session, and in a folder

in_session : (other : Device) (sight : Sight) (old : Peer) (rest : Session → Row Acted) → ((session : Session) → KeepsFolders old (rest session)) → KeepsFolders old (SessionRow other sight old rest)
in_session other sight old rest keeps =
    refusing (HasSame old) (idle old) _ _ _ (unchanged old.replicas)
    (refusing (HasSame old) (idle old) _ _ _ (unchanged old.replicas) (λ new answer made. keeps made.0 new answer made.2))

in_folder : (folder : Folder) (old : Peer) (rest : Replica → Row Acted) → ((replica : Replica) → get old.replicas folder ≡ Some replica → KeepsFolders old (rest replica)) → KeepsFolders old (ReplicaRow folder old rest)
in_folder folder old rest keeps new answer made = keeps made.0 made.1 new answer made.2

-- ---- begin

pub begin_keeps : (other : Device) (sight : Sight) (old : Peer) → KeepsFolders old (BeginRow other sight old)
begin_keeps other sight old =
    refusing (HasSame old) (idle old) _ _ _ (unchanged old.replicas)
    (refusing (HasSame old) (idle old) _ _ _ (unchanged old.replicas)
    (refusing (HasSame old) (idle old) _ _ _ (unchanged old.replicas) (becoming (HasSame old) _ _ (unchanged old.replicas))))

-- ---- taking a message

losing_keeps : (old : Peer) → KeepsFolders old (LosingRow old)
losing_keeps old = becoming (HasSame old) _ _ (unchanged old.replicas)

-- the folders once each view is under the announced id
renewed_keeps : (other : Device) (one : Announced) (found : Option Replica) (replicas : ByName Replica) → get replicas one.folder ≡ found → SameFolders replicas (renewed other one found replicas)
renewed_keeps other one None replicas is = unchanged replicas
renewed_keeps other one (Some replica) replicas is = folder_changed replicas one.folder replica _ is refl

all_renewed_keep : (other : Device) (named : List Announced) (replicas : ByName Replica) → SameFolders replicas (all_renewed other named replicas)
all_renewed_keep other [] replicas = unchanged replicas
all_renewed_keep other (one ∷ more) replicas = λ folder.
    all_renewed_keep other more (renewed other one (get replicas one.folder) replicas) folder
    ∙ renewed_keeps other one (get replicas one.folder) replicas refl folder

view_keeps : (other : Device) (folder : Folder) (view : Listing) (replica : Replica) (old : Peer) → get old.replicas folder ≡ Some replica → KeepsFolders old (ViewRow other folder view replica old)
view_keeps other folder view replica old is =
    refusing (HasSame old) (idle old) _ _ _ (unchanged old.replicas) (becoming (HasSame old) _ _ (folder_changed old.replicas folder replica _ is refl))

request_keeps : (request : Request) (failed : Option ℕ) (full : Bool) (replica : Replica) (old : Peer) → KeepsFolders old (RequestRow request failed full replica old)
request_keeps request failed full replica old =
    refusing (HasSame old) (idle old) _ _ _ (unchanged old.replicas)
    (λ new answer made. becoming (HasSame old) _ _ (unchanged old.replicas) new answer made.2)

-- the folders once bytes were received
block_keeps : (request : Request) (bytes : List ℕ) (pull : Option Pull) (replica : Replica) → outline (with_block request bytes pull replica) ≡ outline replica
block_keeps request bytes None replica = refl
block_keeps request bytes (Some pull) replica = refl

received_keeps : (request : Request) (bytes : List ℕ) (found : Option Replica) (peer : Peer) → get peer.replicas request.folder ≡ found → SameFolders peer.replicas (with_received request bytes found peer).replicas
received_keeps request bytes None peer is = unchanged peer.replicas
received_keeps request bytes (Some replica) peer is =
    folder_changed peer.replicas request.folder replica _ is (block_keeps request bytes (pull_at replica request.name) replica)

answered_keeps : (other : Device) (session : Session) (response : Response) (request : Request) (old : Peer) → KeepsFolders old (AnsweredRow other session response request old)
answered_keeps other session response request old =
    let answered = with_session old other (record session { outstanding = without response.id session.outstanding }) in
    either (HasSame old) _ _ _
    (becoming (HasSame old) _ _ (received_keeps request response.bytes (get answered.replicas request.folder) answered refl))
    (becoming (HasSame old) _ _ (unchanged old.replicas))

asked_keeps : (other : Device) (session : Session) (response : Response) (asked : Option Request) (old : Peer) → KeepsFolders old (AskedRow other session response asked old)
asked_keeps other session response None old = becoming (HasSame old) _ _ (unchanged old.replicas)
asked_keeps other session response (Some request) old = answered_keeps other session response request old

message_keeps : (other : Device) (failed : Option ℕ) (full : Bool) (session : Session) (message : Message) (old : Peer) → KeepsFolders old (MessageRow other failed full session message old)
message_keeps other failed full session (messages.ClusterConfig named) old =
    either (HasSame old) _ _ _ (becoming (HasSame old) _ _ (all_renewed_keep other named old.replicas)) (losing_keeps old)
message_keeps other failed full session (messages.Index folder batch) old =
    either (HasSame old) _ _ _ (in_folder folder old _ (λ replica is. view_keeps other folder _ replica old is)) (losing_keeps old)
message_keeps other failed full session (messages.IndexUpdate folder batch) old =
    either (HasSame old) _ _ _
    (in_folder folder old _ (λ replica is. either (HasSame old) _ _ _ (losing_keeps old) (view_keeps other folder _ replica old is)))
    (losing_keeps old)
message_keeps other failed full session (messages.Request request) old =
    either (HasSame old) _ _ _ (in_folder request.folder old _ (λ replica is. request_keeps request failed full replica old)) (losing_keeps old)
message_keeps other failed full session (messages.Response response) old = asked_keeps other session response _ old

waiting_keeps : (other : Device) (failed : Option ℕ) (full : Bool) (session : Session) (waiting : Option Message) (old : Peer) → KeepsFolders old (WaitingRow other failed full session waiting old)
waiting_keeps other failed full session None old = becoming (HasSame old) _ _ (unchanged old.replicas)
waiting_keeps other failed full session (Some message) old = message_keeps other failed full session message old

pub deliver_keeps : (other : Device) (failed : Option ℕ) (sight : Sight) (old : Peer) → KeepsFolders old (DeliverRow other failed sight old)
deliver_keeps other failed sight old =
    in_session other sight old _ (λ session. waiting_keeps other failed sight.full session sight.waiting old)

-- ---- announcing records

sending_keeps : (other : Device) (folder : Folder) (full : Bool) (session : Session) (cursor : Plan) (old : Peer) (replica : Replica) → KeepsFolders old (SendingRow other folder full session cursor old replica)
sending_keeps other folder full session cursor old replica = λ new answer made.
    refusing (HasSame old) (idle old) _ _ _ (unchanged old.replicas)
    (refusing (HasSame old) (idle old) _ _ _ (unchanged old.replicas) (becoming (HasSame old) _ _ (unchanged old.replicas))) new answer made.2

cursor_keeps : (other : Device) (folder : Folder) (full : Bool) (session : Session) (cursor : Option Plan) (old : Peer) → KeepsFolders old (CursorRow other folder full session cursor old)
cursor_keeps other folder full session None old = becoming (HasSame old) _ _ (unchanged old.replicas)
cursor_keeps other folder full session (Some cursor) old = in_folder folder old _ (λ replica is. sending_keeps other folder full session cursor old replica)

pub announce_keeps : (other : Device) (folder : Folder) (sight : Sight) (old : Peer) → KeepsFolders old (AnnounceRow other folder sight old)
announce_keeps other folder sight old =
    in_session other sight old _ (λ session. cursor_keeps other folder sight.full session (get session.cursors folder) old)

-- ---- asking for a block

asking_keeps : (other : Device) (folder : Folder) (name : FileName) (full : Bool) (session : Session) (old : Peer) (replica : Replica) → KeepsFolders old (AskingRow other folder name full session old replica)
asking_keeps other folder name full session old replica =
    refusing (HasSame old) (idle old) _ _ _ (unchanged old.replicas)
    (refusing (HasSame old) (idle old) _ _ _ (unchanged old.replicas)
    (λ new answer made. becoming (HasSame old) _ _ (unchanged old.replicas) new answer made.2))

pub ask_keeps : (other : Device) (folder : Folder) (name : FileName) (sight : Sight) (old : Peer) → KeepsFolders old (AskRow other folder name sight old)
ask_keeps other folder name sight old =
    in_session other sight old _ (λ session. in_folder folder old _ (λ replica is. asking_keeps other folder name sight.full session old replica))
