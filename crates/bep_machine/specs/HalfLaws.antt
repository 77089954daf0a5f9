-- A step is what it does to each device and each link, and a run is what its events make of each; the functions of
-- src/halves.rt have these as contracts.
use Rattle.std.specs.Prelude.{◌≡◌, ◌≢◌, ◌⊎◌, ◌↔◌, ℕ, true, ⊤, List, [], ◌∷◌, Option, Some, None, option_map, Contains}
use Rattle.std.specs.FinMap.{get}
use Rattle.bep_record.specs.declared.folder_kind.FolderKind.{FolderKind}
use Rattle.bep_record.specs.declared.node.NodeParts.{NodeParts}
use Rattle.bep_model.specs.Tables.{Device, Folder, FileName}
use Rattle.bep_machine.specs.declared.step.Step.{Step}
use Rattle.bep_machine.specs.declared.step.Step.TheVariants.{Edit, Remove, Scan, Override, Revert, Connect, Lose, Begin, Deliver, Announce, StartPull, Ask, Finish, Restart, Reset}
use Rattle.bep_machine.specs.declared.moved.Moved.{Moved}
use Rattle.bep_machine.specs.declared.moved.Moved.TheVariants.{Changed}
use Rattle.bep_machine.specs.Answer.{Answer, Done, Row}
use Rattle.bep_machine.specs.Replica.{Replica}
use Rattle.bep_machine.specs.Local.{EditRow, RemoveRow, ScanRow, OverrideRow, RevertRow}
use Rattle.bep_machine.specs.Pull.{StartPullRow, FinishRow}
use Rattle.bep_machine.specs.Link.{Link, Sight, lost, end_of, sight_of, after_deed}
use Rattle.bep_machine.specs.Peer.{Peer, Acted, with_replica}
use Rattle.bep_machine.specs.Exchange.{BeginRow, DeliverRow, AnnounceRow, AskRow}
use Rattle.bep_machine.specs.Cluster.{Config, Cluster}
use Rattle.bep_machine.specs.Steps.{AreLinked, IsThere, ConnectRow, LoseRow, restarted, HasIdFrom, reset_to, IsStep, Event, IsRun}
use Rattle.bep_machine.specs.Sound.{IsSound}
use Rattle.bep_machine.specs.Laws.{IsSoundStep}
use Rattle.bep_machine.specs.declared.logged.Exchanged.{Exchanged}
use Rattle.bep_machine.specs.declared.logged.Logged.{Logged}
use Rattle.bep_machine.specs.declared.logged.Traffic.{Traffic}
use Rattle.bep_machine.specs.Halves.{Guards, OfDevice, OfDeviceAndLink, OfLink, OfDeviceAndLinks, guards_of, touches_link, logged_of, deed_told, IsSeen, IsDone, PeerStep, LinkStep, PeerReplays, LinkReplays, events_of_device, reset_in_log, events_of_link}

-- ---- one step

-- it is what is logged of a step that was made
abbrev pub Tells : Logged → Event → Type 0
Tells one made = one ≡ logged_of made one.traffic

-- each device and each link makes its half of the event
pub record IsMadeBy (event : Logged) (old new : Cluster) : Type 0 where
  pub config : new.config ≡ old.config
  pub peers : (device : Device) → PeerStep device event (old.peer device) (new.peer device)
  pub links : (lower upper : Device) → LinkStep lower upper event (old.link lower upper) (new.link lower upper)

-- where all that a step names is there, its halves make the step, which was done, or yet changed something
abbrev pub HalvesMakeTheStep : Type 0
HalvesMakeTheStep = (one : Logged) (old new : Cluster) → IsThere old.config one.step → IsMadeBy one old new →
    (answer : Answer) × IsStep one.step one.failed old new answer × Tells one (record { step = one.step; failed = one.failed; answer = answer }) ×
    (IsDone answer ⊎ (new ≢ old))

-- Either a step isn't done and changes nothing, or an event tells of it: all that it names is there, and each device and
-- each link makes its half.
abbrev pub StepHasHalves : Type 0
StepHasHalves = (made : Event) (old new : Cluster) → IsStep made.step made.failed old new made.answer →
    ((¬ IsDone made.answer) × (new ≡ old)) ⊎
    ((traffic : Option Traffic) × IsThere old.config made.step × IsMadeBy (logged_of made traffic) old new)

-- ---- one action

-- What a device makes in a folder, where it is done, or yet changed something: what is logged of it makes the same of the
-- device.
abbrev pub IsToldInFolder : Device → Folder → Step → Option ℕ → (Replica → Row Replica) → Type 0
IsToldInFolder device folder step failed row = (old : Peer) (before after : Replica) (answer : Answer) →
    get old.replicas folder ≡ Some before → row before after answer → IsDone answer ⊎ (after ≢ before) →
    PeerStep device (logged_of (record { step = step; failed = failed; answer = answer }) None) old (with_replica old folder after)

abbrev pub EditIsTold : Type 0
EditIsTold = (device : Device) (folder : Folder) (name : FileName) (node : NodeParts) (failed : Option ℕ) →
    IsToldInFolder device folder (Edit device folder name node) failed (EditRow name node failed)

abbrev pub RemoveIsTold : Type 0
RemoveIsTold = (device : Device) (folder : Folder) (name : FileName) (failed : Option ℕ) →
    IsToldInFolder device folder (Remove device folder name) failed (RemoveRow name failed)

abbrev pub ScanIsTold : Type 0
ScanIsTold = (device : Device) (folder : Folder) (name : FileName) (failed : Option ℕ) →
    IsToldInFolder device folder (Scan device folder name) failed (ScanRow device name failed)

abbrev pub OverrideIsTold : Type 0
OverrideIsTold = (device : Device) (folder : Folder) (name : FileName) (failed : Option ℕ) →
    IsToldInFolder device folder (Override device folder name) failed (OverrideRow device name)

abbrev pub RevertIsTold : Type 0
RevertIsTold = (device : Device) (folder : Folder) (name : FileName) (failed : Option ℕ) →
    IsToldInFolder device folder (Revert device folder name) failed (RevertRow device name failed)

abbrev pub StartPullIsTold : Type 0
StartPullIsTold = (device : Device) (folder : Folder) (name : FileName) (failed : Option ℕ) →
    IsToldInFolder device folder (StartPull device folder name) failed (StartPullRow device name)

abbrev pub FinishIsTold : Type 0
FinishIsTold = (device : Device) (folder : Folder) (name : FileName) (failed : Option ℕ) →
    IsToldInFolder device folder (Finish device folder name) failed (FinishRow device name failed)

-- What a device makes over a link that it is lent, where it is done: some traffic tells what it did to the link, and what is
-- logged with this traffic makes the same of both.
abbrev pub IsToldOverLink : Device → Device → Step → Option ℕ → (Sight → Peer → Row Acted) → Type 0
IsToldOverLink device other step failed row = (link : Link) (old : Peer) (acted : Acted) (moved : Moved) →
    row (sight_of (end_of device other) link) old acted (Done moved) →
    (traffic : Traffic) × (acted.deed ≡ deed_told traffic.done) ×
    PeerStep device (logged_of (record { step = step; failed = failed; answer = Done moved }) (Some traffic)) old acted.peer ×
    ((lower upper : Device) → touches_link (OfDeviceAndLink device other) lower upper ≡ true →
    LinkStep lower upper (logged_of (record { step = step; failed = failed; answer = Done moved }) (Some traffic)) link (after_deed (end_of device other) acted.deed link))

abbrev pub BeginIsTold : Type 0
BeginIsTold = (device other : Device) (failed : Option ℕ) → IsToldOverLink device other (Begin device other) failed (BeginRow other)

abbrev pub DeliverIsTold : Type 0
DeliverIsTold = (device other : Device) (failed : Option ℕ) →
    IsToldOverLink device other (Deliver device other) failed (DeliverRow other failed)

abbrev pub AnnounceIsTold : Type 0
AnnounceIsTold = (device other : Device) (folder : Folder) (failed : Option ℕ) →
    IsToldOverLink device other (Announce device other folder) failed (AnnounceRow other folder)

abbrev pub AskIsTold : Type 0
AskIsTold = (device other : Device) (folder : Folder) (name : FileName) (failed : Option ℕ) →
    IsToldOverLink device other (Ask device other folder name) failed (AskRow other folder name)

-- no other traffic tells what was done to a link
abbrev pub TrafficIsOne : Type 0
TrafficIsOne = (one other : Exchanged) (sight : Sight) → deed_told one ≡ deed_told other → IsSeen one sight → IsSeen other sight → one ≡ other

-- what becomes of a link by itself, where it is done: what is logged of it makes the same of the link
abbrev pub IsToldOfLink : Device → Device → Step → (Link → Row Link) → Type 0
IsToldOfLink lower upper step row = (old new : Link) (moved : Moved) → row old new (Done moved) →
    LinkStep lower upper (logged_of (record { step = step; failed = None; answer = Done moved }) None) old new

abbrev pub ConnectIsTold : Type 0
ConnectIsTold = (lower upper : Device) → IsToldOfLink lower upper (Connect lower upper) ConnectRow

abbrev pub LoseIsTold : Type 0
LoseIsTold = (lower upper : Device) → IsToldOfLink lower upper (Lose lower upper) LoseRow

-- what is logged of a restart makes it of the device, and of each of its links
abbrev pub RestartIsTold : Type 0
RestartIsTold = (device : Device) →
    let one = logged_of (record { step = Restart device; failed = None; answer = Done Changed }) None in
    ((old : Peer) → PeerStep device one old (restarted old)) ×
    ((lower upper : Device) (old : Link) → touches_link (OfDeviceAndLinks device) lower upper ≡ true → LinkStep lower upper one old (lost old))

-- what is logged of a reset makes it of the device, where the id is above those of its indexes, and of each of its links
abbrev pub ResetIsTold : Type 0
ResetIsTold = (device : Device) (id : ℕ) →
    let one = logged_of (record { step = Reset device id; failed = None; answer = Done Changed }) None in
    ((old : Peer) → ¬ HasIdFrom id old → PeerStep device one old (reset_to id old)) ×
    ((lower upper : Device) (old : Link) → touches_link (OfDeviceAndLinks device) lower upper ≡ true → LinkStep lower upper one old (lost old))

-- ---- one object

-- a device, or a link, replays a log where it replays its own events in it
abbrev pub DevicesReplayTheirOwn : Type 0
DevicesReplayTheirOwn = (device : Device) (old new : Peer) (logged : List Logged) →
    PeerReplays device old logged new ↔ PeerReplays device old (events_of_device device logged) new

abbrev pub LinksReplayTheirOwn : Type 0
LinksReplayTheirOwn = (lower upper : Device) (old new : Link) (logged : List Logged) →
    LinkReplays lower upper old logged new ↔ LinkReplays lower upper old (events_of_link lower upper logged) new

-- a device has the same folders, and each has this as it had it
abbrev pub Keeps : {X : Type 0} → (Replica → X) → Peer → Peer → Type 0
Keeps read old new = (folder : Folder) → option_map read (get new.replicas folder) ≡ option_map read (get old.replicas folder)

-- in which kind the device has the folder, and which others share it
abbrev pub shared_as : Replica → FolderKind × List Device
shared_as replica = (replica.kind, replica.others)

abbrev pub index_id : Replica → ℕ
index_id replica = replica.index.id

-- no event changes who shares a folder, and in which kind
abbrev pub ReplaysKeepSharing : Type 0
ReplaysKeepSharing = (device : Device) (old new : Peer) (logged : List Logged) → PeerReplays device old logged new → Keeps shared_as old new

-- and only a reset of the device changes the id of an index
abbrev pub ReplaysKeepIds : Type 0
ReplaysKeepIds = (device : Device) (old new : Peer) (logged : List Logged) →
    PeerReplays device old logged new → ¬ Contains (reset_in_log logged) device → Keeps index_id old new

-- ---- runs

-- each device and each link replays the events
pub record IsReplayed (events : List Logged) (old new : Cluster) : Type 0 where
  pub config : new.config ≡ old.config
  pub peers : (device : Device) → PeerReplays device (old.peer device) events (new.peer device)
  pub links : (lower upper : Device) → LinkReplays lower upper (old.link lower upper) events (new.link lower upper)

-- the log tells of the steps of the run, in order, all but some that weren't done
abbrev pub IsLogOf : List Event → List Logged → Type 0
IsLogOf [] [] = ⊤
IsLogOf [] (one ∷ logged) = ⊥
IsLogOf (event ∷ events) [] = (¬ IsDone event.answer) × IsLogOf events []
IsLogOf (event ∷ events) (one ∷ logged) =
    ((¬ IsDone event.answer) × IsLogOf events (one ∷ logged)) ⊎ (Tells one event × IsLogOf events logged)

-- all that the steps of a log name is there
abbrev pub AreThere : Config → List Logged → Type 0
AreThere config [] = ⊤
AreThere config (one ∷ logged) = IsThere config one.step × AreThere config logged

-- of every run there is a log that each device and each link replays
abbrev pub RunReplays : Type 0
RunReplays = (old new : Cluster) (events : List Event) → IsRun old events new →
    (logged : List Logged) × IsLogOf events logged × AreThere old.config logged × IsReplayed logged old new

-- the steps of the run are those of the log, with the very calls that fail
abbrev pub HasStepsOf : List Logged → List Event → Type 0
HasStepsOf [] [] = ⊤
HasStepsOf (one ∷ logged) (event ∷ events) = Tells one event × (event.failed ≡ one.failed) × HasStepsOf logged events
HasStepsOf _ _ = ⊥

-- where each device and each link replays one log, its steps are a run
abbrev pub ReplaysRun : Type 0
ReplaysRun = (old new : Cluster) (logged : List Logged) → AreThere old.config logged → IsReplayed logged old new →
    (events : List Event) × HasStepsOf logged events × IsRun old events new

-- ---- what is there

-- what is held while a step is made is there
abbrev pub AreHeld : Config → Guards → Type 0
AreHeld config (OfDevice device) = Contains config.devices device
AreHeld config (OfDeviceAndLink device other) = Contains config.devices device × AreLinked config device other
AreHeld config (OfLink lower upper) = Contains config.links (lower, upper)
AreHeld config (OfDeviceAndLinks device) = Contains config.devices device

-- each device and link that an event of the log touches is there, and what an edit puts is a node
abbrev pub AreOfCluster : Config → List Logged → Type 0
AreOfCluster config [] = ⊤
AreOfCluster config (one ∷ logged) = AreHeld config (guards_of one.step) × IsSoundStep one.step × AreOfCluster config logged

-- Where the devices and links of a sound cluster replay such a log, all that its steps name is there: devices share the
-- folders that they announce and ask for. The cluster to which it leads is sound.
abbrev pub ReplaysAreThere : Type 0
ReplaysAreThere = (old new : Cluster) (logged : List Logged) → IsSound old → AreOfCluster old.config logged → IsReplayed logged old new →
    AreThere old.config logged × IsSound new
