-- The steps of a device over a link: begin a session, take a message, announce records, ask for a block
-- (BEP v1, 'Cluster Config', 'Index', 'Index Update', 'Request', 'Response'; limits are this project's profile).
use Rattle.std.specs.Prelude.{◌≡◌, ◌≢◌, ◌⊎◌, ◌+◌, ◌<◌, ◌≤◌, ◌==◌, ◌&&◌, nat_le, ℕ, Bool, true, false, List, [], ◌∷◌, ◌++◌, length, take, drop, ⊤, Option, Some, None, IsSome, IsTrue, if◌then◌else◌}
use Rattle.std.specs.List.{list_any}
use Rattle.std.specs.Ordering.{nat_cmp, is_eq}
use Rattle.std.specs.Cmp.Lexicographic.{slice_cmp}
use Rattle.std.specs.FinMap.{empty, get, insert, len}
use Rattle.bep_map.specs.NameMap.{ByName}
use Rattle.bep_record.specs.declared.entry.Entry.{Entry}
use Rattle.bep_record.specs.declared.block.Block.{Block}
use Rattle.bep_record.specs.declared.kind.Kind.TheVariants.{File}
use Rattle.bep_record.specs.declared.node.NodeParts.{NodeParts}
use Rattle.bep_record.specs.Content.{content_of}
use Rattle.bep_blocks.specs.Plain.{hash_of}
use Rattle.bep_index.specs.declared.limits.TheConstants.{MAX_NAMES, MAX_RECORDS}
use Rattle.bep_index.specs.declared.send.Plan.{Plan}
use Rattle.bep_index.specs.declared.send.Plan.TheVariants.{Full, Above}
use Rattle.bep_index.specs.Listing.{Listing}
use Rattle.bep_index.specs.Batch.{last_sequence}
use Rattle.bep_index.specs.After.{IsAfter}
use Rattle.bep_index.specs.View.{cleared, replaced, amended, IsOld}
use Rattle.bep_model.specs.Tables.{Device, Folder, FileName}
use Rattle.bep_machine.specs.declared.limits.TheConstants.{MAX_OUTSTANDING, MAX_REQUEST_ID}
use Rattle.bep_machine.specs.declared.message.Message.{Message}
use Rattle.bep_machine.specs.declared.message.Message.TheVariants as messages
use Rattle.bep_machine.specs.declared.message.Announced.{Announced}
use Rattle.bep_machine.specs.declared.message.Request.{Request}
use Rattle.bep_machine.specs.declared.message.Response.{Response}
use Rattle.bep_machine.specs.declared.message.Code.{Code}
use Rattle.bep_machine.specs.declared.message.Code.TheVariants.{NoError, Generic, NoSuchFile, InvalidFile}
use Rattle.bep_machine.specs.declared.moved.Moved.TheVariants.{Changed, LinkLost}
use Rattle.bep_machine.specs.declared.refusal.Refusal.TheVariants.{IndexFull, LinkDown, LinkFull, NotBegun, NothingToDo}
use Rattle.bep_machine.specs.Answer.{Done, Refused, Row, becomes, when◌then◌else◌, ◌answers◌when◌else◌}
use Rattle.bep_machine.specs.Replica.{Pull, Replica, own_at, node_at, pull_at, view_of, viewed_at, HasContentOf, with_view, with_pull}
use Rattle.bep_machine.specs.Local.{Fails}
use Rattle.bep_machine.specs.Link.{Sight, taking, sending, losing}
use Rattle.bep_machine.specs.Peer.{Session, Peer, Acted, idle, new_session, with_replica, with_session, is_shared_with, config_for}

-- ---- sessions

-- the device has a session with the other one, of the epoch in which the link is
abbrev pub IsInSession : Device → Sight → Peer → Session → Type 0
IsInSession other sight peer session = (get peer.sessions other ≡ Some session) × (session.epoch ≡ sight.epoch)

abbrev pub HasSession : Device → Sight → Peer → Type 0
HasSession other sight peer = (session : Session) × IsInSession other sight peer session

-- what a device does in its session over a link that is up
abbrev pub SessionRow : Device → Sight → Peer → (Session → Row Acted) → Row Acted
SessionRow other sight old rest =
    idle old answers Refused LinkDown when sight.up ≡ false else
    idle old answers Refused NotBegun when ¬ HasSession other sight old else
    (λ new answer. (session : Session) × IsInSession other sight old session × rest session new answer)

-- what it does with its replica of a folder
abbrev pub ReplicaRow : Folder → Peer → (Replica → Row Acted) → Row Acted
ReplicaRow folder old rest new answer = (replica : Replica) × (get old.replicas folder ≡ Some replica) × rest replica new answer

-- ---- begin

-- a new session replaces an older one, and a ClusterConfig goes to the other device
abbrev pub BeginRow : Device → Sight → Peer → Row Acted
BeginRow other sight old =
    idle old answers Refused LinkDown when sight.up ≡ false else
    idle old answers Refused NothingToDo when HasSession other sight old else
    idle old answers Refused LinkFull when sight.full ≡ true else
    becomes (record { peer = with_session old other (new_session sight.epoch); deed = sending (messages.ClusterConfig (config_for other old)) }) (Done Changed)

-- ---- taking a message

-- the message is taken, and this peer is left
abbrev pub taken_by : Peer → Acted
taken_by peer = record { peer = peer; deed = taking }

-- the message breaks the protocol: the link is lost
abbrev pub LosingRow : Peer → Row Acted
LosingRow old = becomes (record { peer = old; deed = losing }) (Done LinkLost)

-- a ClusterConfig names each folder once
abbrev pub NamesNot : Folder → List Announced → Type 0
NamesNot folder [] = ⊤
NamesNot folder (one ∷ more) = (one.folder ≢ folder) × NamesNot folder more

abbrev pub NamesOnce : List Announced → Type 0
NamesOnce [] = ⊤
NamesOnce (one ∷ more) = NamesNot one.folder more × NamesOnce more

-- the device shares the folder with the other one
abbrev pub SharesWith : Device → Peer → Folder → Type 0
SharesWith other peer folder = (replica : Replica) × (get peer.replicas folder ≡ Some replica) × IsTrue (is_shared_with other replica)

-- and names only such folders
abbrev pub NamesShared : Device → Peer → List Announced → Type 0
NamesShared other peer [] = ⊤
NamesShared other peer (one ∷ more) = SharesWith other peer one.folder × NamesShared other peer more

-- a ClusterConfig that can be taken: the first of its session
pub record IsGoodConfig (other : Device) (session : Session) (peer : Peer) (named : List Announced) : Type 0 where
  pub first : session.configured ≡ false
  pub once : NamesOnce named
  pub shared : NamesShared other peer named

-- a view of another index than the announced one is cleared
abbrev pub known_under : ℕ → Listing → Listing
known_under id view = if view.id == id then view else cleared id

-- What is sent next to a device that announced this point of the index: what is above it, where the point is one of this
-- very index, else the whole index.
abbrev pub cursor_after : Listing → ℕ → ℕ → Plan
cursor_after index id sequence =
    if (index.id == id) && (nat_le 1 sequence && nat_le sequence index.sequence) then Above sequence else Full

-- the replicas once each folder's view is under the announced id
abbrev pub renewed : Device → Announced → Option Replica → ByName Replica → ByName Replica
renewed other one None replicas = replicas
renewed other one (Some replica) replicas =
    insert replicas one.folder (with_view replica other (known_under one.index_id (view_of replica other)))

abbrev pub all_renewed : Device → List Announced → ByName Replica → ByName Replica
all_renewed other [] replicas = replicas
all_renewed other (one ∷ more) replicas = all_renewed other more (renewed other one (get replicas one.folder) replicas)

-- the cursor of each folder
abbrev pub with_cursor : Announced → Option Replica → ByName Plan → ByName Plan
with_cursor one None cursors = cursors
with_cursor one (Some replica) cursors = insert cursors one.folder (cursor_after replica.index one.known_id one.known_sequence)

abbrev pub cursors_for : List Announced → ByName Replica → ByName Plan → ByName Plan
cursors_for [] replicas cursors = cursors
cursors_for (one ∷ more) replicas cursors = cursors_for more replicas (with_cursor one (get replicas one.folder) cursors)

-- the ClusterConfig is taken
abbrev pub configured_by : Device → Session → List Announced → Peer → Peer
configured_by other session named peer =
    with_session (record peer { replicas = all_renewed other named peer.replicas }) other
    (record session { configured = true; cursors = cursors_for named peer.replicas empty })

-- the session's ClusterConfig named the folder (before one was delivered, none is named)
abbrev pub IsNamed : Session → Folder → Type 0
IsNamed session folder = IsSome (get session.cursors folder)

-- the view of the other device becomes this one, unless it has too many names
abbrev pub ViewRow : Device → Folder → Listing → Replica → Peer → Row Acted
ViewRow other folder view replica old =
    idle old answers Refused IndexFull when MAX_NAMES < len view.records else
    becomes (taken_by (with_replica old folder (with_view replica other view))) (Done Changed)

-- the part of a file that a request is about, and whether a node has it
abbrev pub HasRange : Request → Option NodeParts → Type 0
HasRange request None = ⊥
HasRange request (Some node) = (node.kind ≡ File) × (request.offset + request.size ≤ length node.bytes)

abbrev pub bytes_asked : Request → Option NodeParts → List ℕ
bytes_asked request None = []
bytes_asked request (Some node) = take request.size (drop request.offset node.bytes)

abbrev pub refusing : Request → Code → Response
refusing request code = record { id = request.id; code = code; bytes = [] }

-- the answer to a request: the bytes, or why there are none
abbrev pub Answers : Request → Option ℕ → Option NodeParts → Response → Type 0
Answers request failed node response =
    (Fails 1 failed × (response ≡ refusing request Generic)) ⊎ ((¬ Fails 1 failed) × (
    ((¬ HasRange request node) × (response ≡ refusing request NoSuchFile)) ⊎ (HasRange request node × (
    ((hash_of (bytes_asked request node) ≢ request.hash) × (response ≡ refusing request InvalidFile)) ⊎
    ((hash_of (bytes_asked request node) ≡ request.hash) × (response ≡ record { id = request.id; code = NoError; bytes = bytes_asked request node }))))))

abbrev pub RequestRow : Request → Option ℕ → Bool → Replica → Peer → Row Acted
RequestRow request failed full replica old =
    idle old answers Refused LinkFull when full ≡ true else
    (λ new answer. (response : Response) × Answers request failed (node_at replica request.name) response ×
    becomes (record { peer = old; deed = record taking { sends = Some (messages.Response response) } }) (Done Changed) new answer)

-- the same texts
abbrev pub same_bytes : List ℕ → List ℕ → Bool
same_bytes one other = is_eq (slice_cmp nat_cmp one other)

-- the request is about this block of a file
abbrev pub is_about : Request → Block → Bool
is_about request block = (request.offset == block.offset) && ((request.size == block.size) && same_bytes request.hash block.hash)

-- the request of this number, and the requests without it
abbrev pub asked_for : ℕ → List Request → Option Request
asked_for id [] = None
asked_for id (one ∷ more) = if one.id == id then Some one else asked_for id more

abbrev pub without : ℕ → List Request → List Request
without id [] = []
without id (one ∷ more) = if one.id == id then more else one ∷ without id more

-- the bytes are the ones that were asked for
abbrev pub HasBytes : Response → Request → Type 0
HasBytes response request = (response.code ≡ NoError) × (length response.bytes ≡ request.size) × (hash_of response.bytes ≡ request.hash)

-- the bytes stand at the block; what was received before stays
abbrev pub received_at : Request → List ℕ → List Block → List (Option (List ℕ)) → List (Option (List ℕ))
received_at request bytes (block ∷ blocks) (None ∷ received) =
    (if is_about request block then Some bytes else None) ∷ received_at request bytes blocks received
received_at request bytes (block ∷ blocks) (Some had ∷ received) = Some had ∷ received_at request bytes blocks received
received_at request bytes blocks received = received

abbrev pub with_block : Request → List ℕ → Option Pull → Replica → Replica
with_block request bytes None replica = replica
with_block request bytes (Some pull) replica =
    with_pull replica request.name (record pull { received = received_at request bytes pull.target.blocks pull.received })

abbrev pub with_received : Request → List ℕ → Option Replica → Peer → Peer
with_received request bytes None peer = peer
with_received request bytes (Some replica) peer =
    with_replica peer request.folder (with_block request bytes (pull_at replica request.name) replica)

-- a request is answered: it isn't outstanding any more, and right bytes count as received
abbrev pub AnsweredRow : Device → Session → Response → Request → Peer → Row Acted
AnsweredRow other session response request old =
    let answered = with_session old other (record session { outstanding = without response.id session.outstanding }) in
    when HasBytes response request
    then becomes (taken_by (with_received request response.bytes (get answered.replicas request.folder) answered)) (Done Changed)
    else becomes (taken_by answered) (Done Changed)

-- a response to no outstanding request is ignored
abbrev pub AskedRow : Device → Session → Response → Option Request → Peer → Row Acted
AskedRow other session response None old = becomes (taken_by old) (Done Changed)
AskedRow other session response (Some request) old = AnsweredRow other session response request old

abbrev pub ResponseRow : Device → Session → Response → Peer → Row Acted
ResponseRow other session response old = AskedRow other session response (asked_for response.id session.outstanding) old

-- what each message does
abbrev pub MessageRow : Device → Option ℕ → Bool → Session → Message → Peer → Row Acted
MessageRow other failed full session (messages.ClusterConfig named) old =
    when IsGoodConfig other session old named
    then becomes (taken_by (configured_by other session named old)) (Done Changed)
    else LosingRow old
MessageRow other failed full session (messages.Index folder batch) old =
    when IsNamed session folder
    then ReplicaRow folder old (λ replica. ViewRow other folder (replaced (view_of replica other) batch) replica old)
    else LosingRow old
MessageRow other failed full session (messages.IndexUpdate folder batch) old =
    when IsNamed session folder
    then ReplicaRow folder old (λ replica.
    when IsOld (view_of replica other).sequence batch
    then LosingRow old
    else ViewRow other folder (amended (view_of replica other) batch) replica old)
    else LosingRow old
MessageRow other failed full session (messages.Request request) old =
    when IsNamed session request.folder
    then ReplicaRow request.folder old (λ replica. RequestRow request failed full replica old)
    else LosingRow old
MessageRow other failed full session (messages.Response response) old = ResponseRow other session response old

-- the first message on its way to the device, if there is one
abbrev pub WaitingRow : Device → Option ℕ → Bool → Session → Option Message → Peer → Row Acted
WaitingRow other failed full session None old = becomes (idle old) (Refused NothingToDo)
WaitingRow other failed full session (Some message) old = MessageRow other failed full session message old

abbrev pub DeliverRow : Device → Option ℕ → Sight → Peer → Row Acted
DeliverRow other failed sight old =
    SessionRow other sight old (λ session. WaitingRow other failed sight.full session sight.waiting old)

-- ---- announcing records

-- the sequence above which records are sent
abbrev pub sent_up_to : Plan → ℕ
sent_up_to Full = 0
sent_up_to (Above sequence) = sequence

-- the whole index goes as an Index first, and what is above a sequence as an IndexUpdate
abbrev pub index_message : Plan → Folder → List Entry → Message
index_message Full folder batch = messages.Index folder batch
index_message (Above sequence) folder batch = messages.IndexUpdate folder batch

-- nothing is left to send
abbrev pub IsAllSent : Plan → List Entry → Type 0
IsAllSent Full batch = ⊥
IsAllSent (Above sequence) batch = batch ≡ []

abbrev pub SendingRow : Device → Folder → Bool → Session → Plan → Peer → Replica → Row Acted
SendingRow other folder full session cursor old replica new answer =
    (batch : List Entry) × IsAfter replica.index.records (sent_up_to cursor) MAX_RECORDS batch ×
    (idle old answers Refused NothingToDo when IsAllSent cursor batch else
    idle old answers Refused LinkFull when full ≡ true else
    becomes (record {
      peer = with_session old other (record session { cursors = insert session.cursors folder (Above (last_sequence (sent_up_to cursor) batch)) });
      deed = sending (index_message cursor folder batch);
    }) (Done Changed)) new answer

abbrev pub CursorRow : Device → Folder → Bool → Session → Option Plan → Peer → Row Acted
CursorRow other folder full session None old = becomes (idle old) (Refused NotBegun)
CursorRow other folder full session (Some cursor) old = ReplicaRow folder old (SendingRow other folder full session cursor old)

abbrev pub AnnounceRow : Device → Folder → Sight → Peer → Row Acted
AnnounceRow other folder sight old =
    SessionRow other sight old (λ session. CursorRow other folder sight.full session (get session.cursors folder) old)

-- ---- asking for a block

-- a request of the session is about this block of the file
abbrev pub is_asked : Session → Folder → FileName → Block → Bool
is_asked session folder name block =
    list_any (λ request. same_bytes request.folder folder && (same_bytes request.name name && is_about request block)) session.outstanding

-- the first block that is neither received nor asked for
abbrev pub next_block : Session → Folder → FileName → List Block → List (Option (List ℕ)) → Option Block
next_block session folder name (block ∷ blocks) (None ∷ received) =
    if is_asked session folder name block then next_block session folder name blocks received else Some block
next_block session folder name (block ∷ blocks) (Some had ∷ received) = next_block session folder name blocks received
next_block session folder name blocks received = None

-- the device can ask the other one for this block
pub record CanAsk (other : Device) (folder : Folder) (name : FileName) (session : Session) (replica : Replica) (block : Block) : Type 0 where
  pub pull : Pull
  pub pulled : pull_at replica name ≡ Some pull
  pub different : ¬ HasContentOf (own_at replica name) pull.target
  pub next : next_block session folder name pull.target.blocks pull.received ≡ Some block
  pub few : length session.outstanding < MAX_OUTSTANDING
  pub numbered : session.next ≤ MAX_REQUEST_ID
  pub viewed : Entry
  pub seen : viewed_at replica other name ≡ Some viewed
  pub valid : viewed.invalid ≡ false
  pub same : content_of viewed ≡ content_of pull.target

abbrev pub request_for : Session → Folder → FileName → Block → Request
request_for session folder name block = record {
  id = session.next;
  folder = folder;
  name = name;
  offset = block.offset;
  size = block.size;
  hash = block.hash;
}

abbrev pub AskingRow : Device → Folder → FileName → Bool → Session → Peer → Replica → Row Acted
AskingRow other folder name full session old replica =
    idle old answers Refused NothingToDo when ¬ ((block : Block) × CanAsk other folder name session replica block) else
    idle old answers Refused LinkFull when full ≡ true else
    (λ new answer. (block : Block) × CanAsk other folder name session replica block ×
    becomes (record {
      peer = with_session old other (record session { outstanding = session.outstanding ++ request_for session folder name block ∷ []; next = session.next + 1 });
      deed = sending (messages.Request (request_for session folder name block));
    }) (Done Changed) new answer)

abbrev pub AskRow : Device → Folder → FileName → Sight → Peer → Row Acted
AskRow other folder name sight old =
    SessionRow other sight old (λ session. ReplicaRow folder old (AskingRow other folder name sight.full session old))
