-- That each step over a link does what it is for, where nothing stands in its way, and that what breaks the protocol loses
-- the link. The functions of src/link_effects.rt have these as contracts (BEP v1; sessions, epochs and limits are this
-- project's profile).
use Rattle.std.specs.Prelude.{◌≡◌, ◌≢◌, ◌⊎◌, ◌↔◌, ℕ, ◌+◌, ◌<◌, ◌≤◌, true, false, List, [], ◌∷◌, ◌++◌, map, take, drop, Option, Some, None, Contains, IsTrue, length}
use Rattle.std.specs.Ordering.{nat_cmp}
use Rattle.std.specs.Cmp.Lexicographic.{slice_cmp}
use Rattle.std.specs.List.Sorted.{IsStrictlySortedBy}
use Rattle.std.specs.FinMap.{empty, get, len}
use Rattle.bep_record.specs.declared.block.Block.{Block}
use Rattle.bep_record.specs.declared.entry.Entry.{Entry}
use Rattle.bep_record.specs.declared.kind.Kind.TheVariants.{File}
use Rattle.bep_record.specs.declared.node.NodeParts.{NodeParts}
use Rattle.bep_record.specs.Content.{content_of}
use Rattle.bep_blocks.specs.Plain.{hash_of}
use Rattle.bep_index.specs.declared.limits.TheConstants.{MAX_NAMES, MAX_RECORDS}
use Rattle.bep_index.specs.declared.send.Plan.{Plan}
use Rattle.bep_index.specs.declared.send.Plan.TheVariants.{Full, Above}
use Rattle.bep_index.specs.Listing.{IsRecord}
use Rattle.bep_index.specs.Index.{IsIndex, IsPoint}
use Rattle.bep_index.specs.Batch.{HasNo, NamesDiffer, last_sequence, with_all}
use Rattle.bep_index.specs.After.{IsAmong, IsAfter}
use Rattle.bep_index.specs.View.{IsOld, cleared}
use Rattle.bep_model.specs.Tables.{Device, Folder, FileName}
use Rattle.bep_model.specs.Settled.{content_of_node}
use Rattle.bep_machine.specs.declared.limits.TheConstants.{MAX_EPOCH}
use Rattle.bep_machine.specs.declared.message.Message.{Message}
use Rattle.bep_machine.specs.declared.message.Message.TheVariants as messages
use Rattle.bep_machine.specs.declared.message.Announced.{Announced}
use Rattle.bep_machine.specs.declared.message.Request.{Request}
use Rattle.bep_machine.specs.declared.message.Response.{Response}
use Rattle.bep_machine.specs.declared.message.Code.TheVariants.{NoError}
use Rattle.bep_machine.specs.declared.moved.Moved.TheVariants.{Changed, LinkLost}
use Rattle.bep_machine.specs.Answer.{Answer, Done, Row}
use Rattle.bep_machine.specs.Replica.{Pull, Replica, own_at, node_at, pull_at, view_of}
use Rattle.bep_machine.specs.Link.{Link, Sight}
use Rattle.bep_machine.specs.Peer.{Session, Peer, Acted, is_shared_with}
use Rattle.bep_machine.specs.Exchange.{IsGoodConfig, IsInSession, HasSession, SharesWith, NamesNot, NamesOnce, NamesShared, BeginRow, DeliverRow, AnnounceRow, AskRow, CanAsk, asked_for, without}
use Rattle.bep_machine.specs.Cluster.{Cluster}
use Rattle.bep_machine.specs.Steps.{ConnectRow, LoseRow, RestartRow, HasIdFrom, ResetRow}
use Rattle.bep_machine.specs.Sound.{IsSoundPull}
use Rattle.bep_machine.specs.Effects.{LeadsTo}

-- ---- links

-- nothing is on its way over the link
abbrev pub IsEmpty : Link → Type 0
IsEmpty link = (link.to_lower ≡ []) × (link.to_upper ≡ [])

-- a link that is down comes up, with the next epoch and nothing on its way
abbrev pub ConnectOpens : Type 0
ConnectOpens = (old : Link) → old.up ≡ false → old.epoch ≢ MAX_EPOCH →
    (new : Link) × ConnectRow old new (Done Changed) × (new.up ≡ true) × (new.epoch ≡ old.epoch + 1) × IsEmpty new

-- a link that is up goes down, in the same epoch, and nothing is on its way any more
abbrev pub LoseEmpties : Type 0
LoseEmpties = (old : Link) → old.up ≡ true →
    (new : Link) × LoseRow old new (Done Changed) × (new.up ≡ false) × (new.epoch ≡ old.epoch) × IsEmpty new

-- what a restart leaves of a replica: all but the pulls
pub record IsRestarted (old new : Replica) : Type 0 where
  pub kind : new.kind ≡ old.kind
  pub others : new.others ≡ old.others
  pub index : new.index ≡ old.index
  pub views : new.views ≡ old.views
  pub store : new.store ≡ old.store
  pub pulls : new.pulls ≡ empty

-- a restart takes the device's sessions and pulls, and each link of it is down then, with nothing on its way; the other
-- devices, and the links between them, stay
pub record HasRestarted (device : Device) (old new : Cluster) : Type 0 where
  pub sessions : (new.peer device).sessions ≡ empty
  pub replicas : (folder : Folder) (replica : Replica) → get (old.peer device).replicas folder ≡ Some replica →
      (later : Replica) × (get (new.peer device).replicas folder ≡ Some later) × IsRestarted replica later
  pub lower : (other : Device) → ((new.link device other).up ≡ false) × IsEmpty (new.link device other)
  pub upper : (other : Device) → ((new.link other device).up ≡ false) × IsEmpty (new.link other device)
  pub others : (other : Device) → other ≢ device → new.peer other ≡ old.peer other
  pub apart : (one other : Device) → one ≢ device → other ≢ device → new.link one other ≡ old.link one other

abbrev pub RestartForgets : Type 0
RestartForgets = (device : Device) (old : Cluster) →
    (new : Cluster) × RestartRow device old new (Done Changed) × HasRestarted device old new

-- what a reset leaves of a replica: its kind, who shares it, and its store; the index has the new id and no record
pub record IsBegunAnew (id : ℕ) (old new : Replica) : Type 0 where
  pub kind : new.kind ≡ old.kind
  pub others : new.others ≡ old.others
  pub index : new.index ≡ record { id = id; sequence = 0; records = empty }
  pub views : new.views ≡ empty
  pub store : new.store ≡ old.store
  pub pulls : new.pulls ≡ empty

-- a reset takes the device's sessions, pulls, views and records, and each link of it is down then, with nothing on its way;
-- the other devices, and the links between them, stay
pub record HasStartedOver (device : Device) (id : ℕ) (old new : Cluster) : Type 0 where
  pub sessions : (new.peer device).sessions ≡ empty
  pub replicas : (folder : Folder) (replica : Replica) → get (old.peer device).replicas folder ≡ Some replica →
      (later : Replica) × (get (new.peer device).replicas folder ≡ Some later) × IsBegunAnew id replica later
  pub lower : (other : Device) → ((new.link device other).up ≡ false) × IsEmpty (new.link device other)
  pub upper : (other : Device) → ((new.link other device).up ≡ false) × IsEmpty (new.link other device)
  pub others : (other : Device) → other ≢ device → new.peer other ≡ old.peer other
  pub apart : (one other : Device) → one ≢ device → other ≢ device → new.link one other ≡ old.link one other

-- so it is where the id is above that of each index of the device
abbrev pub ResetStartsOver : Type 0
ResetStartsOver = (device : Device) (id : ℕ) (old : Cluster) → ¬ HasIdFrom id (old.peer device) →
    LeadsTo (ResetRow device id old) (Done Changed) (HasStartedOver device id old)

-- ---- beginning a session

-- the link is up, and one more message can be sent
pub record IsOpen (sight : Sight) : Type 0 where
  pub up : sight.up ≡ true
  pub room : sight.full ≡ false

-- a session that begins: the other's ClusterConfig isn't there yet, so no folder has a cursor; and nothing was asked
pub record IsNewSession (epoch : ℕ) (session : Session) : Type 0 where
  pub current : session.epoch ≡ epoch
  pub unconfigured : session.configured ≡ false
  pub unnamed : (folder : Folder) → get session.cursors folder ≡ None
  pub unasked : session.outstanding ≡ []
  pub next : session.next ≡ 1

-- it tells the point of the own index, and of what is known of the other device's
pub record TellsPoints (other : Device) (replica : Replica) (one : Announced) : Type 0 where
  pub index_id : one.index_id ≡ replica.index.id
  pub sequence : one.sequence ≡ replica.index.sequence
  pub known_id : one.known_id ≡ (view_of replica other).id
  pub known_sequence : one.known_sequence ≡ (view_of replica other).sequence

-- it names the folders that both share, each once and in order, and no other
pub record IsConfigFor (other : Device) (peer : Peer) (named : List Announced) : Type 0 where
  pub once : NamesOnce named
  pub rise : IsStrictlySortedBy (slice_cmp nat_cmp) (map (λ one. one.folder) named)
  pub told : (one : Announced) → Contains named one →
      (replica : Replica) × (get peer.replicas one.folder ≡ Some replica) × IsTrue (is_shared_with other replica) × TellsPoints other replica one
  pub all : (folder : Folder) → SharesWith other peer folder → (one : Announced) × Contains named one × (one.folder ≡ folder)

-- a device that has no session of the link's epoch begins one, and its ClusterConfig goes to the other device
abbrev pub BeginOpens : Type 0
BeginOpens = (other : Device) (sight : Sight) (old : Peer) → IsOpen sight → (¬ HasSession other sight old) →
    (new : Acted) × (session : Session) × (named : List Announced) × BeginRow other sight old new (Done Changed) ×
    (get new.peer.sessions other ≡ Some session) × IsNewSession sight.epoch session × IsConfigFor other old named ×
    (new.deed.sends ≡ Some (messages.ClusterConfig named)) × (new.deed.loses ≡ false) × (new.peer.replicas ≡ old.replicas)

-- ---- taking a message

-- the device is in its session with the other one, and this message is the first on its way to it
pub record IsTaking (other : Device) (sight : Sight) (peer : Peer) (session : Session) (message : Message) : Type 0 where
  pub up : sight.up ≡ true
  pub current : IsInSession other sight peer session
  pub waiting : sight.waiting ≡ Some message

-- whatever comes of the row, the link is lost, and the device stays as it was; and something comes of it
pub record LosesLink (old : Peer) (row : Row Acted) : Type 0 where
  pub acted : Acted
  pub made : row acted (Done LinkLost)
  pub only : (new : Acted) (answer : Answer) → row new answer → (answer ≡ Done LinkLost) × (new.deed.loses ≡ true) × (new.peer ≡ old)

-- the message is about the folder
abbrev pub IsAbout : Folder → Message → Type 0
IsAbout folder (messages.Index named batch) = named ≡ folder
IsAbout folder (messages.IndexUpdate named batch) = named ≡ folder
IsAbout folder (messages.Request request) = request.folder ≡ folder
IsAbout folder message = ⊥

-- records and requests of a folder that the session's ClusterConfig didn't name lose the link; so before it came, all do
abbrev pub UnnamedLosesLink : Type 0
UnnamedLosesLink =
    (other : Device) (failed : Option ℕ) (sight : Sight) (old : Peer) (session : Session) (message : Message) (folder : Folder) →
    IsTaking other sight old session message → IsAbout folder message → get session.cursors folder ≡ None →
    LosesLink old (DeliverRow other failed sight old)

-- a second ClusterConfig of a session loses it
abbrev pub SecondConfigLosesLink : Type 0
SecondConfigLosesLink =
    (other : Device) (failed : Option ℕ) (sight : Sight) (old : Peer) (session : Session) (named : List Announced) →
    IsTaking other sight old session (messages.ClusterConfig named) → session.configured ≡ true →
    LosesLink old (DeliverRow other failed sight old)

-- and so does one that names a folder that the two don't share
abbrev pub UnsharedLosesLink : Type 0
UnsharedLosesLink =
    (other : Device) (failed : Option ℕ) (sight : Sight) (old : Peer) (session : Session) (named : List Announced) (one : Announced) →
    IsTaking other sight old session (messages.ClusterConfig named) → Contains named one → (¬ SharesWith other old one.folder) →
    LosesLink old (DeliverRow other failed sight old)

-- or that names a folder twice
abbrev pub TwiceLosesLink : Type 0
TwiceLosesLink =
    (other : Device) (failed : Option ℕ) (sight : Sight) (old : Peer) (session : Session) (front middle back : List Announced) (one again : Announced) →
    IsTaking other sight old session (messages.ClusterConfig (front ++ (one ∷ (middle ++ (again ∷ back))))) → again.folder ≡ one.folder →
    LosesLink old (DeliverRow other failed sight old)

-- an IndexUpdate that doesn't begin above what is known loses it too
abbrev pub OldUpdateLosesLink : Type 0
OldUpdateLosesLink =
    (other : Device) (failed : Option ℕ) (sight : Sight) (old : Peer) (session : Session) (folder : Folder) (batch : List Entry) (replica : Replica) →
    IsTaking other sight old session (messages.IndexUpdate folder batch) → get old.replicas folder ≡ Some replica →
    IsOld (view_of replica other).sequence batch →
    LosesLink old (DeliverRow other failed sight old)

-- What breaks the protocol in a session: a ClusterConfig that isn't the session's first, or names a folder twice, or one that
-- the two don't share; records and requests of a folder that the session's ClusterConfig didn't name; an IndexUpdate that
-- doesn't begin above what is known.
abbrev pub Breaks : Device → Session → Peer → Message → Type 0
Breaks other session peer (messages.ClusterConfig named) = ¬ IsGoodConfig other session peer named
Breaks other session peer (messages.Index folder batch) = get session.cursors folder ≡ None
Breaks other session peer (messages.IndexUpdate folder batch) =
    (get session.cursors folder ≡ None) ⊎ ((replica : Replica) × (get peer.replicas folder ≡ Some replica) × IsOld (view_of replica other).sequence batch)
Breaks other session peer (messages.Request request) = get session.cursors request.folder ≡ None
Breaks other session peer (messages.Response response) = ⊥

-- the first message on its way to the device does
pub record IsBreach (other : Device) (sight : Sight) (peer : Peer) : Type 0 where
  pub session : Session
  pub message : Message
  pub taking : IsTaking other sight peer session message
  pub breaks : Breaks other session peer message

-- a delivery answers that the link was lost exactly where the message breaks the protocol, and exactly there it is lost
abbrev pub BreachAloneLosesLink : Type 0
BreachAloneLosesLink =
    (other : Device) (failed : Option ℕ) (sight : Sight) (old : Peer) (new : Acted) (answer : Answer) → DeliverRow other failed sight old new answer →
    ((answer ≡ Done LinkLost) ↔ IsBreach other sight old) × ((answer ≡ Done LinkLost) ↔ (new.deed.loses ≡ true))

-- A folder that the ClusterConfig named: the view is under the announced id, cleared if it was under another one; and what is
-- above the announced point is sent next, where it is one of the own index, else the whole index.
pub record IsConfigured (other : Device) (one : Announced) (old later : Replica) (session : Session) : Type 0 where
  pub index : later.index ≡ old.index
  pub store : later.store ≡ old.store
  pub pulls : later.pulls ≡ old.pulls
  pub known : (view_of old other).id ≡ one.index_id → view_of later other ≡ view_of old other
  pub unknown : (view_of old other).id ≢ one.index_id → view_of later other ≡ cleared one.index_id
  pub goes_on : IsPoint old.index one.known_id one.known_sequence → get session.cursors one.folder ≡ Some (Above one.known_sequence)
  pub anew : (¬ IsPoint old.index one.known_id one.known_sequence) → get session.cursors one.folder ≡ Some Full

-- the first ClusterConfig of a session is taken, if it names each folder once and only folders that both share
abbrev pub ConfigIsTaken : Type 0
ConfigIsTaken =
    (other : Device) (failed : Option ℕ) (sight : Sight) (old : Peer) (session : Session) (named : List Announced) →
    IsTaking other sight old session (messages.ClusterConfig named) → session.configured ≡ false → NamesOnce named → NamesShared other old named →
    (new : Acted) × (next : Session) × DeliverRow other failed sight old new (Done Changed) × (new.deed.takes ≡ true) × (new.deed.loses ≡ false) ×
    (get new.peer.sessions other ≡ Some next) × (next.epoch ≡ session.epoch) × (next.configured ≡ true) ×
    ((one : Announced) (replica : Replica) → Contains named one → get old.replicas one.folder ≡ Some replica →
    (later : Replica) × (get new.peer.replicas one.folder ≡ Some later) × IsConfigured other one replica later next) ×
    ((folder : Folder) → NamesNot folder named → (get next.cursors folder ≡ None) × (get new.peer.replicas folder ≡ get old.replicas folder))

-- the message was taken, and the replica's view of the other device became another one; index, store and pulls stay
pub record HasTakenView (other : Device) (folder : Folder) (old later : Replica) (new : Acted) : Type 0 where
  pub there : get new.peer.replicas folder ≡ Some later
  pub index : later.index ≡ old.index
  pub store : later.store ≡ old.store
  pub pulls : later.pulls ≡ old.pulls
  pub id : (view_of later other).id ≡ (view_of old other).id
  pub takes : new.deed.takes ≡ true
  pub keeps : new.deed.loses ≡ false

-- an Index brings the view to its records, and to no others
abbrev pub IndexBringsView : Type 0
IndexBringsView =
    (other : Device) (failed : Option ℕ) (sight : Sight) (old : Peer) (session : Session) (cursor : Plan) (folder : Folder) (batch : List Entry) (replica : Replica) →
    IsTaking other sight old session (messages.Index folder batch) → get session.cursors folder ≡ Some cursor → get old.replicas folder ≡ Some replica →
    NamesDiffer batch → len (with_all empty batch) ≤ MAX_NAMES →
    (new : Acted) × (later : Replica) × DeliverRow other failed sight old new (Done Changed) × HasTakenView other folder replica later new ×
    ((view_of later other).sequence ≡ last_sequence 0 batch) ×
    ((name : FileName) (entry : Entry) → (get (view_of later other).records name ≡ Some entry) ↔ (IsAmong entry batch × (entry.name ≡ name)))

-- an IndexUpdate adds its records to the view, whose other names stay
abbrev pub UpdateAddsToView : Type 0
UpdateAddsToView =
    (other : Device) (failed : Option ℕ) (sight : Sight) (old : Peer) (session : Session) (cursor : Plan) (folder : Folder) (batch : List Entry) (replica : Replica) →
    IsTaking other sight old session (messages.IndexUpdate folder batch) → get session.cursors folder ≡ Some cursor → get old.replicas folder ≡ Some replica →
    NamesDiffer batch → (¬ IsOld (view_of replica other).sequence batch) → len (with_all (view_of replica other).records batch) ≤ MAX_NAMES →
    (new : Acted) × (later : Replica) × DeliverRow other failed sight old new (Done Changed) × HasTakenView other folder replica later new ×
    ((view_of later other).sequence ≡ last_sequence (view_of replica other).sequence batch) ×
    ((entry : Entry) → IsAmong entry batch → get (view_of later other).records entry.name ≡ Some entry) ×
    ((name : FileName) → HasNo name batch → get (view_of later other).records name ≡ get (view_of replica other).records name)

-- the request asks for this block of the file
pub record AsksFor (block : Block) (request : Request) : Type 0 where
  pub offset : request.offset ≡ block.offset
  pub size : request.size ≡ block.size
  pub hash : request.hash ≡ block.hash

-- a file that holds what its record says
pub record HoldsFile (replica : Replica) (name : FileName) (own : Entry) (node : NodeParts) : Type 0 where
  pub recorded : own_at replica name ≡ Some own
  pub present : own.deleted ≡ false
  pub file : own.kind ≡ File
  pub stored : node_at replica name ≡ Some node
  pub same : content_of_node (Some node) ≡ content_of own

-- a request for a block of such a file is answered with the block's bytes
abbrev pub RequestIsAnswered : Type 0
RequestIsAnswered =
    (other : Device) (sight : Sight) (old : Peer) (session : Session) (cursor : Plan) (request : Request) (replica : Replica) (own : Entry) (node : NodeParts) (block : Block) →
    IsTaking other sight old session (messages.Request request) → sight.full ≡ false →
    get session.cursors request.folder ≡ Some cursor → get old.replicas request.folder ≡ Some replica →
    HoldsFile replica request.name own node → Contains own.blocks block → AsksFor block request →
    (new : Acted) × (response : Response) × DeliverRow other None sight old new (Done Changed) ×
    (new.deed.sends ≡ Some (messages.Response response)) × (new.deed.takes ≡ true) × (new.deed.loses ≡ false) × (new.peer ≡ old) ×
    (response.id ≡ request.id) × (response.code ≡ NoError) × (response.bytes ≡ take block.size (drop block.offset node.bytes))

-- A right response to a request of the session: the request isn't outstanding any more, and the bytes count as received at
-- the block that was asked for, with what the pull's target is and where the block stands in it as before. In a sound pull
-- no other block is asked for, and all others are as before.
abbrev pub BlockIsReceived : Type 0
BlockIsReceived =
    (other : Device) (failed : Option ℕ) (sight : Sight) (old : Peer) (session : Session) (response : Response) (request : Request) (replica : Replica) (pull : Pull)
    (block : Block) (front back : List Block) (had more : List (Option (List ℕ))) →
    IsTaking other sight old session (messages.Response response) → asked_for response.id session.outstanding ≡ Some request →
    response.code ≡ NoError → length response.bytes ≡ request.size → hash_of response.bytes ≡ request.hash →
    get old.replicas request.folder ≡ Some replica → pull_at replica request.name ≡ Some pull → AsksFor block request →
    pull.target.blocks ≡ front ++ (block ∷ back) → pull.received ≡ had ++ (None ∷ more) → length front ≡ length had →
    (new : Acted) × (next : Session) × (later : Replica) × (now : Pull) × (before after : List (Option (List ℕ))) × DeliverRow other failed sight old new (Done Changed) ×
    (get new.peer.sessions other ≡ Some next) × (next.outstanding ≡ without response.id session.outstanding) ×
    (get new.peer.replicas request.folder ≡ Some later) × (pull_at later request.name ≡ Some now) × (now.target ≡ pull.target) ×
    (now.received ≡ before ++ (Some response.bytes ∷ after)) × (length before ≡ length front) ×
    (IsSoundPull request.name pull → (before ≡ had) × (after ≡ more))

-- the message was taken, and that is all
pub record HasOnlyTaken (old : Peer) (new : Acted) : Type 0 where
  pub peer : new.peer ≡ old
  pub takes : new.deed.takes ≡ true
  pub silent : new.deed.sends ≡ None
  pub keeps : new.deed.loses ≡ false

-- a response to no request of the session is ignored
abbrev pub UnaskedIsIgnored : Type 0
UnaskedIsIgnored =
    (other : Device) (failed : Option ℕ) (sight : Sight) (old : Peer) (session : Session) (response : Response) →
    IsTaking other sight old session (messages.Response response) →
    ((request : Request) → Contains session.outstanding request → request.id ≢ response.id) →
    LeadsTo (DeliverRow other failed sight old) (Done Changed) (HasOnlyTaken old)

-- ---- announcing and asking

-- the cursor of the folder is this one afterwards, and the session is else as it was, with the cursors of other folders
pub record HasMovedOn (other : Device) (folder : Folder) (old : Session) (sequence : ℕ) (new : Peer) : Type 0 where
  pub session : Session
  pub there : get new.sessions other ≡ Some session
  pub same : (session.epoch ≡ old.epoch) × (session.configured ≡ old.configured) × (session.outstanding ≡ old.outstanding) × (session.next ≡ old.next)
  pub cursor : get session.cursors folder ≡ Some (Above sequence)
  pub others : (named : Folder) → named ≢ folder → get session.cursors named ≡ get old.cursors named

-- where the whole index is due, its first records go in an Index
abbrev pub WholeIsAnnounced : Type 0
WholeIsAnnounced =
    (other : Device) (folder : Folder) (sight : Sight) (old : Peer) (session : Session) (replica : Replica) →
    IsOpen sight → IsInSession other sight old session → get session.cursors folder ≡ Some Full → get old.replicas folder ≡ Some replica → IsIndex replica.index →
    (new : Acted) × (batch : List Entry) × AnnounceRow other folder sight old new (Done Changed) ×
    IsAfter replica.index.records 0 MAX_RECORDS batch × (new.deed.sends ≡ Some (messages.Index folder batch)) × (new.deed.loses ≡ false) ×
    HasMovedOn other folder session (last_sequence 0 batch) new.peer × (new.peer.replicas ≡ old.replicas)

-- else the first above the cursor go in an IndexUpdate, if there are some
abbrev pub FurtherIsAnnounced : Type 0
FurtherIsAnnounced =
    (other : Device) (folder : Folder) (sight : Sight) (old : Peer) (session : Session) (sequence : ℕ) (replica : Replica) (entry : Entry) →
    IsOpen sight → IsInSession other sight old session → get session.cursors folder ≡ Some (Above sequence) → get old.replicas folder ≡ Some replica → IsIndex replica.index →
    IsRecord replica.index.records entry → sequence < entry.sequence →
    (new : Acted) × (batch : List Entry) × AnnounceRow other folder sight old new (Done Changed) ×
    IsAfter replica.index.records sequence MAX_RECORDS batch × (new.deed.sends ≡ Some (messages.IndexUpdate folder batch)) × (new.deed.loses ≡ false) ×
    HasMovedOn other folder session (last_sequence sequence batch) new.peer × (new.peer.replicas ≡ old.replicas)

-- a block that the device can ask for is asked for, under the session's next number
abbrev pub AskSendsRequest : Type 0
AskSendsRequest =
    (other : Device) (folder : Folder) (name : FileName) (sight : Sight) (old : Peer) (session : Session) (replica : Replica) (block : Block) →
    IsOpen sight → IsInSession other sight old session → get old.replicas folder ≡ Some replica → CanAsk other folder name session replica block →
    (new : Acted) × (request : Request) × (later : Session) × AskRow other folder name sight old new (Done Changed) ×
    (new.deed.sends ≡ Some (messages.Request request)) × (new.deed.loses ≡ false) ×
    (request.id ≡ session.next) × (request.folder ≡ folder) × (request.name ≡ name) × AsksFor block request ×
    (get new.peer.sessions other ≡ Some later) × (later.outstanding ≡ session.outstanding ++ request ∷ []) × (later.next ≡ session.next + 1) × (new.peer.replicas ≡ old.replicas)
