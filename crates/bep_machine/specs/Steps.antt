-- The steps of a cluster, each a row of refusals and effect, and runs of steps (BEP v1; the steps are this project's
-- profile).
use Rattle.std.specs.Prelude.{◌≡◌, ◌⊎◌, ◌≤◌, ℕ, true, false, ⊤, List, [], ◌∷◌, ◌++◌, map, Option, Some, Contains}
use Rattle.std.specs.FinMap.{empty, get, entries, from_entries}
use Rattle.bep_record.specs.declared.folder_kind.FolderKind.{FolderKind}
use Rattle.bep_index.specs.View.{cleared}
use Rattle.bep_model.specs.Tables.{Device, Folder}
use Rattle.bep_machine.specs.declared.limits.TheConstants.{MAX_EPOCH}
use Rattle.bep_machine.specs.declared.moved.Moved.TheVariants.{Changed}
use Rattle.bep_machine.specs.declared.refusal.Refusal.TheVariants.{EpochFull, IndexIdOld, LinkDown, NotShared, NothingToDo}
use Rattle.bep_machine.specs.declared.step.Step.{Step}
use Rattle.bep_machine.specs.declared.step.Step.TheVariants.{Edit, Remove, Scan, Override, Revert, Connect, Lose, Begin, Deliver, Announce, StartPull, Ask, Finish, Restart, Reset}
use Rattle.bep_machine.specs.Answer.{Answer, Done, Refused, OutOfMemory, Row, becomes, ◌answers◌when◌else◌}
use Rattle.bep_machine.specs.Replica.{Replica}
use Rattle.bep_machine.specs.Local.{EditRow, RemoveRow, ScanRow, OverrideRow, RevertRow}
use Rattle.bep_machine.specs.Pull.{StartPullRow, FinishRow}
use Rattle.bep_machine.specs.Link.{Link, Sight, connected, lost, end_of, sight_of, after_deed}
use Rattle.bep_machine.specs.Peer.{Peer, Acted, with_replica}
use Rattle.bep_machine.specs.Exchange.{BeginRow, DeliverRow, AnnounceRow, AskRow}
use Rattle.bep_machine.specs.Cluster.{Config, Cluster, link_between, with_link, with_link_between, with_peer, without_links}

-- ---- what a step names

-- the device shares the folder
abbrev pub SharesFolder : Config → Device → Folder → Type 0
SharesFolder config device folder = (kind : FolderKind) × Contains (config.sharing folder) (device, kind)

-- there is a link between the two
abbrev pub AreLinked : Config → Device → Device → Type 0
AreLinked config device other = Contains config.links (device, other) ⊎ Contains config.links (other, device)

-- all that a step names is there
abbrev pub IsThere : Config → Step → Type 0
IsThere config (Edit device folder name node) = SharesFolder config device folder
IsThere config (Remove device folder name) = SharesFolder config device folder
IsThere config (Scan device folder name) = SharesFolder config device folder
IsThere config (Override device folder name) = SharesFolder config device folder
IsThere config (Revert device folder name) = SharesFolder config device folder
IsThere config (Connect one other) = Contains config.links (one, other)
IsThere config (Lose one other) = Contains config.links (one, other)
IsThere config (Begin device other) = AreLinked config device other
IsThere config (Deliver device other) = AreLinked config device other
IsThere config (Announce device other folder) =
    AreLinked config device other × SharesFolder config device folder × SharesFolder config other folder
IsThere config (StartPull device folder name) = SharesFolder config device folder
IsThere config (Ask device other folder name) =
    AreLinked config device other × SharesFolder config device folder × SharesFolder config other folder
IsThere config (Finish device folder name) = SharesFolder config device folder
IsThere config (Restart device) = Contains config.devices device
IsThere config (Reset device id) = Contains config.devices device

-- ---- which part of the cluster a step changes

-- a replica makes a row, and all else stays
abbrev pub AtReplica : Device → Folder → (Replica → Row Replica) → Cluster → Row Cluster
AtReplica device folder row old new answer =
    (before after : Replica) × (get (old.peer device).replicas folder ≡ Some before) × row before after answer ×
    (new ≡ with_peer old device (with_replica (old.peer device) folder after))

-- a device makes a row over its link with another one, and all else stays
abbrev pub OverLink : Device → Device → (Sight → Peer → Row Acted) → Cluster → Row Cluster
OverLink device other row old new answer =
    (acted : Acted) × row (sight_of (end_of device other) (link_between old device other)) (old.peer device) acted answer ×
    (new ≡ with_link_between (with_peer old device acted.peer) device other (after_deed (end_of device other) acted.deed (link_between old device other)))

-- ---- links

-- the link comes up: with the next epoch, and nothing on its way
abbrev pub ConnectRow : Link → Row Link
ConnectRow old =
    old answers Refused NothingToDo when old.up ≡ true else
    old answers Refused EpochFull when old.epoch ≡ MAX_EPOCH else
    becomes (connected old) (Done Changed)

-- the link goes down, and what was on its way is lost
abbrev pub LoseRow : Link → Row Link
LoseRow old =
    old answers Refused LinkDown when old.up ≡ false else
    becomes (lost old) (Done Changed)

-- a link makes a row, and all else stays
abbrev pub AtLink : Device → Device → (Link → Row Link) → Cluster → Row Cluster
AtLink lower upper row old new answer =
    (after : Link) × row (old.link lower upper) after answer × (new ≡ with_link old lower upper after)

-- ---- restart

abbrev pub without_pulls : Replica → Replica
without_pulls replica = record replica { pulls = empty }

-- sessions and pulls go; indexes, views and stores stay
abbrev pub restarted : Peer → Peer
restarted peer = record { replicas = from_entries (map (λ one. (one.0, without_pulls one.1)) (entries peer.replicas)); sessions = empty }

abbrev pub RestartRow : Device → Cluster → Row Cluster
RestartRow device old = becomes (without_links (with_peer old device (restarted (old.peer device))) device) (Done Changed)

-- ---- reset

-- some index of the device has this id, or one above it
abbrev pub HasIdFrom : ℕ → Peer → Type 0
HasIdFrom id peer = (folder : Folder) × (replica : Replica) × (get peer.replicas folder ≡ Some replica) × (id ≤ replica.index.id)

-- an empty index under this id, nothing known of what others have, and no pulls; the store stays (BEP v1, 'Fields
-- (ClusterConfig)', field 'index_id')
abbrev pub anew_under : ℕ → Replica → Replica
anew_under id replica = record replica { index = cleared id; views = empty; pulls = empty }

abbrev pub reset_to : ℕ → Peer → Peer
reset_to id peer = record { replicas = from_entries (map (λ one. (one.0, anew_under id one.1)) (entries peer.replicas)); sessions = empty }

-- an id that isn't above each present one of the device would let others take the new index for an old one
abbrev pub ResetRow : Device → ℕ → Cluster → Row Cluster
ResetRow device id old =
    old answers Refused IndexIdOld when HasIdFrom id (old.peer device) else
    becomes (without_links (with_peer old device (reset_to id (old.peer device))) device) (Done Changed)

-- ---- steps

-- what a step does where all that it names is there; the store call with the number `failed` fails, if there is one
abbrev pub StepRow : Step → Option ℕ → Cluster → Row Cluster
StepRow (Edit device folder name node) failed = AtReplica device folder (EditRow name node failed)
StepRow (Remove device folder name) failed = AtReplica device folder (RemoveRow name failed)
StepRow (Scan device folder name) failed = AtReplica device folder (ScanRow device name failed)
StepRow (Override device folder name) failed = AtReplica device folder (OverrideRow device name)
StepRow (Revert device folder name) failed = AtReplica device folder (RevertRow device name failed)
StepRow (Connect one other) failed = AtLink one other ConnectRow
StepRow (Lose one other) failed = AtLink one other LoseRow
StepRow (Begin device other) failed = OverLink device other (BeginRow other)
StepRow (Deliver device other) failed = OverLink device other (DeliverRow other failed)
StepRow (Announce device other folder) failed = OverLink device other (AnnounceRow other folder)
StepRow (StartPull device folder name) failed = AtReplica device folder (StartPullRow device name)
StepRow (Ask device other folder name) failed = OverLink device other (AskRow other folder name)
StepRow (Finish device folder name) failed = AtReplica device folder (FinishRow device name failed)
StepRow (Restart device) failed = RestartRow device
StepRow (Reset device id) failed = ResetRow device id

-- steps that grow nothing never want memory
abbrev pub Grows : Step → Type 0
Grows (Edit device folder name node) = ⊤
Grows (Remove device folder name) = ⊤
Grows (Scan device folder name) = ⊤
Grows (Override device folder name) = ⊤
Grows (Revert device folder name) = ⊤
Grows (Connect one other) = ⊥
Grows (Lose one other) = ⊥
Grows (Begin device other) = ⊤
Grows (Deliver device other) = ⊤
Grows (Announce device other folder) = ⊤
Grows (StartPull device folder name) = ⊤
Grows (Ask device other folder name) = ⊤
Grows (Finish device folder name) = ⊤
Grows (Restart device) = ⊥
Grows (Reset device id) = ⊥

-- a step may want memory, and leaves all as it was then; else it is refused where something that it names isn't there,
-- or makes its row
abbrev pub IsStep : Step → Option ℕ → Cluster → Row Cluster
IsStep step failed old new answer =
    (Grows step × becomes old OutOfMemory new answer) ⊎
    (old answers Refused NotShared when ¬ IsThere old.config step else StepRow step failed old) new answer

-- ---- runs

-- a step that was made: which one, which call of the store failed in it, and what it answered
pub record Event : Type 0 where
  pub step : Step
  pub failed : Option ℕ
  pub answer : Answer

-- each step leads from one cluster to the next, in any order and with any calls that fail
abbrev pub IsRun : Cluster → List Event → Cluster → Type 0
IsRun old [] new = new ≡ old
IsRun old (event ∷ more) new = (next : Cluster) × IsStep event.step event.failed old next event.answer × IsRun next more new

-- a step that no user makes
abbrev pub IsQuiet : Step → Type 0
IsQuiet (Edit device folder name node) = ⊥
IsQuiet (Remove device folder name) = ⊥
IsQuiet (Scan device folder name) = ⊤
IsQuiet (Override device folder name) = ⊥
IsQuiet (Revert device folder name) = ⊥
IsQuiet (Connect one other) = ⊤
IsQuiet (Lose one other) = ⊤
IsQuiet (Begin device other) = ⊤
IsQuiet (Deliver device other) = ⊤
IsQuiet (Announce device other folder) = ⊤
IsQuiet (StartPull device folder name) = ⊤
IsQuiet (Ask device other folder name) = ⊤
IsQuiet (Finish device folder name) = ⊤
IsQuiet (Restart device) = ⊤
IsQuiet (Reset device id) = ⊤

abbrev pub AreQuiet : List Event → Type 0
AreQuiet [] = ⊤
AreQuiet (event ∷ more) = IsQuiet event.step × AreQuiet more

-- the device whose indexes a step resets, if it is a reset
abbrev pub reset_by : Step → List Device
reset_by (Edit device folder name node) = []
reset_by (Remove device folder name) = []
reset_by (Scan device folder name) = []
reset_by (Override device folder name) = []
reset_by (Revert device folder name) = []
reset_by (Connect one other) = []
reset_by (Lose one other) = []
reset_by (Begin device other) = []
reset_by (Deliver device other) = []
reset_by (Announce device other folder) = []
reset_by (StartPull device folder name) = []
reset_by (Ask device other folder name) = []
reset_by (Finish device folder name) = []
reset_by (Restart device) = []
reset_by (Reset device id) = device ∷ []

-- the same of a step that was answered: a reset that is refused changes nothing, so only one that is done counts
abbrev pub reset_made : Step → Answer → List Device
reset_made step (Done moved) = reset_by step
reset_made step (Refused why) = []
reset_made step OutOfMemory = []

-- the devices of the resets that were made in a run
abbrev pub reset_in : List Event → List Device
reset_in [] = []
reset_in (event ∷ more) = reset_made event.step event.answer ++ reset_in more

-- no reset was made in the run
abbrev pub HasNoReset : List Event → Type 0
HasNoReset events = reset_in events ≡ []
