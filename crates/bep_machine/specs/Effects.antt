-- That an edit, a removal, a scan, a pull's beginning and end, an override and a revert do what they are for, where nothing
-- stands in their way. The functions of src/effects.rt have these as contracts.
use Rattle.std.specs.Prelude.{◌≡◌, ◌≢◌, ◌↔◌, ◌≤◌, ℕ, max, true, false, List, [], map, length, Option, Some, None, IsSome}
use Rattle.std.specs.List.{concat}
use Rattle.bep_record.specs.declared.entry.Entry.{Entry}
use Rattle.bep_record.specs.declared.kind.Kind.TheVariants.{File}
use Rattle.bep_record.specs.declared.node.NodeParts.{NodeParts}
use Rattle.bep_record.specs.declared.folder_kind.FolderKind.TheVariants.{SendOnly, ReceiveOnly}
use Rattle.bep_record.specs.Content.{Content, Deleted, content_of}
use Rattle.bep_record.specs.Name.{max_name_len}
use Rattle.bep_record.specs.Node.{IsClean}
use Rattle.bep_record.specs.Vector.{counter_of, greatest_counter, most_counters, IsAtMost, IsBelow, IsMerge, IsBump, ids_in_either}
use Rattle.bep_index.specs.Listing.{Listing}
use Rattle.bep_index.specs.Index.{IsSequenceFull, IsIndexFull}
use Rattle.bep_model.specs.Calm.{SameFile}
use Rattle.bep_model.specs.Settled.{content_of_node}
use Rattle.bep_model.specs.Tables.{Device, FileName}
use Rattle.bep_machine.specs.Answer.{Answer, Done, Row}
use Rattle.bep_machine.specs.declared.moved.Moved.TheVariants.{Changed, Dropped}
use Rattle.bep_machine.specs.Replica.{Pull, Replica, own_at, node_at, pull_at, version_of, HasContentOf, Chooses, Wants, with_pull}
use Rattle.bep_machine.specs.Local.{EditRow, RemoveRow, ScanRow, IsCrowded, IsOverridable, ids_with, OverrideRow, RevertRow}
use Rattle.bep_machine.specs.Pull.{StartPullRow, FinishRow, ArePullsFull, new_pull, IsFile, IsMissingBlocks, IsStillWanted, IsConflictDue, EndsWith, copy_name}
use Rattle.bep_machine.specs.Sound.{IsSoundReplica}

-- the index has a number for one more record, and room for its name
pub record HasRoom (index : Listing) (name : FileName) : Type 0 where
  pub numbers : ¬ IsSequenceFull index
  pub names : ¬ IsIndexFull index name

-- the row leads to such a state, with this answer, and nothing else can come of it
pub record LeadsTo {S : Type 0} (row : Row S) (given : Answer) (Fits : S → Type 0) : Type 0 where
  pub made : S
  pub comes : row made given
  pub fits : Fits made
  pub only : (new : S) (answer : Answer) → row new answer → (new ≡ made) × (answer ≡ given)

-- ---- the user's own changes

-- the name holds this, a node or nothing, and all else is as it was
pub record HasPut (name : FileName) (node : Option NodeParts) (old new : Replica) : Type 0 where
  pub here : node_at new name ≡ node
  pub others : (other : FileName) → other ≢ name → node_at new other ≡ node_at old other
  pub rest : new ≡ record old { store = new.store }

-- an edit puts the node, whatever stood at the name
abbrev pub EditPuts : Type 0
EditPuts = (name : FileName) (node : NodeParts) (old : Replica) →
    LeadsTo (EditRow name node None old) (Done Changed) (HasPut name (Some node) old)

-- a removal takes what stands there
abbrev pub RemoveTakes : Type 0
RemoveTakes = (name : FileName) (old : Replica) → node_at old name ≢ None →
    LeadsTo (RemoveRow name None old) (Done Changed) (HasPut name None old)

-- ---- scanning

-- The name has this record, which is the device's, of what stands there, Deleted where nothing does, and against which
-- the node is clean. No file changed, and no other record.
pub record HasRecorded (device : Device) (name : FileName) (old new : Replica) (entry : Entry) : Type 0 where
  pub own : own_at new name ≡ Some entry
  pub content : content_of entry ≡ content_of_node (node_at old name)
  pub there : (entry.deleted ≡ false) ↔ IsSome (node_at old name)
  pub by_device : entry.modified_by ≡ device
  pub clean : IsClean (node_at new name) (Some entry)
  pub store : new.store ≡ old.store
  pub others : (other : FileName) → other ≢ name → own_at new other ≡ own_at old other

-- a scan of a name that isn't clean gives it a record of what is there, with the device's counter raised
abbrev pub ScanRaises : Type 0
ScanRaises =
    (device : Device) (name : FileName) (old : Replica) → 1 ≤ device → IsSoundReplica device old →
    old.kind ≢ ReceiveOnly → (¬ IsClean (node_at old name) (own_at old name)) →
    counter_of (version_of (own_at old name)) device ≢ greatest_counter → (¬ IsCrowded device (version_of (own_at old name))) →
    HasRoom old.index name →
    (new : Replica) × (entry : Entry) × ScanRow device name None old new (Done Changed) × HasRecorded device name old new entry ×
    (entry.invalid ≡ false) × IsBump (version_of (own_at old name)) device entry.version

-- in a receive-only folder it has the old version, and is marked local-only
abbrev pub ScanMarks : Type 0
ScanMarks =
    (device : Device) (name : FileName) (old : Replica) →
    old.kind ≡ ReceiveOnly → (¬ IsClean (node_at old name) (own_at old name)) → HasRoom old.index name →
    (new : Replica) × (entry : Entry) × ScanRow device name None old new (Done Changed) × HasRecorded device name old new entry ×
    (entry.invalid ≡ true) × (entry.version ≡ version_of (own_at old name))

-- ---- pulling

-- beside an own record that isn't local-only, the version of a wanted record isn't at most the own one
abbrev pub WantedIsNewer : Type 0
WantedIsNewer =
    (device : Device) (name : FileName) (replica : Replica) (wanted own : Entry) → Wants device replica name wanted →
    own_at replica name ≡ Some own → own.invalid ≡ false → ¬ IsAtMost wanted.version own.version

-- the pull of a wanted record begins, and all else is as it was
abbrev pub StartPullBegins : Type 0
StartPullBegins =
    (device : Device) (name : FileName) (old : Replica) (wanted : Entry) → Wants device old name wanted → (¬ ArePullsFull old name) →
    (new : Replica) × StartPullRow device name old new (Done Changed) × (pull_at new name ≡ Some (new_pull wanted)) ×
    (new ≡ with_pull old name (new_pull wanted))

-- all blocks of the pull came, its target is still wanted, the name was scanned, and versions and index have room
pub record CanFinish (device : Device) (name : FileName) (old : Replica) (pull : Pull) : Type 0 where
  pub pulled : pull_at old name ≡ Some pull
  pub wanted : IsStillWanted device old name pull.target
  pub received : ¬ (IsFile pull.target × (¬ HasContentOf (own_at old name) pull.target) × IsMissingBlocks pull)
  pub clean : IsClean (node_at old name) (own_at old name)
  pub few : ids_in_either (version_of (own_at old name)) pull.target.version ≤ most_counters
  pub room : HasRoom old.index name

-- a file of the blocks that were received, all of them, one after the other
abbrev pub IsJoined : Pull → Option NodeParts → Type 0
IsJoined pull None = ⊥
IsJoined pull (Some node) =
    (pieces : List (List ℕ)) × (pull.received ≡ map (λ bytes. Some bytes) pieces) × (node.kind ≡ File) × (node.bytes ≡ concat pieces)

-- The name has the target's content in its record, under the merged version, and the node is clean against it: the one
-- that stood there, but for its time, where that has the content; else none, a directory, a symlink, or a file of the
-- received blocks, as the target says. (That a block has its hash is tested when it is received.) The pull is gone.
pub record HasFinished (name : FileName) (old : Replica) (pull : Pull) (new : Replica) : Type 0 where
  pub entry : Entry
  pub own : own_at new name ≡ Some entry
  pub content : content_of entry ≡ content_of pull.target
  pub valid : entry.invalid ≡ false
  pub merge : IsMerge (version_of (own_at old name)) pull.target.version entry.version
  pub node : EndsWith (own_at old name) (node_at old name) pull (node_at new name)
  pub stays : HasContentOf (own_at old name) pull.target → SameFile (node_at old name) (node_at new name)
  pub removed : pull.target.deleted ≡ true → node_at new name ≡ None
  pub like_target : (¬ IsFile pull.target) → content_of_node (node_at new name) ≡ content_of pull.target
  pub joined : IsFile pull.target → (¬ HasContentOf (own_at old name) pull.target) → IsJoined pull (node_at new name)
  pub clean : IsClean (node_at new name) (Some entry)
  pub gone : pull_at new name ≡ None

-- such a pull ends
abbrev pub FinishAdopts : Type 0
FinishAdopts =
    (device : Device) (name : FileName) (old : Replica) (pull : Pull) → IsSoundReplica device old → CanFinish device name old pull →
    (¬ IsConflictDue (own_at old name) pull.target) →
    (new : Replica) × FinishRow device name None old new (Done Changed) × HasFinished name old pull new

-- and where the own file loses against a concurrent one, it is kept under the conflict name
abbrev pub FinishKeepsCopy : Type 0
FinishKeepsCopy =
    (device : Device) (name : FileName) (old : Replica) (pull : Pull) → IsSoundReplica device old → CanFinish device name old pull →
    IsConflictDue (own_at old name) pull.target → length (copy_name (own_at old name)) ≤ max_name_len →
    node_at old (copy_name (own_at old name)) ≡ None →
    (new : Replica) × FinishRow device name None old new (Done Changed) × HasFinished name old pull new ×
    (node_at new (copy_name (own_at old name)) ≡ node_at old name)

-- the pull of the name is gone, and all else is as it was
pub record HasDropped (name : FileName) (old new : Replica) : Type 0 where
  pub gone : pull_at new name ≡ None
  pub others : (other : FileName) → other ≢ name → pull_at new other ≡ pull_at old other
  pub rest : new ≡ record old { pulls = new.pulls }

-- a pull whose target isn't wanted any more is given up
abbrev pub FinishDrops : Type 0
FinishDrops =
    (device : Device) (name : FileName) (failed : Option ℕ) (old : Replica) (pull : Pull) →
    pull_at old name ≡ Some pull → (¬ IsStillWanted device old name pull.target) →
    LeadsTo (FinishRow device name failed old) (Done Dropped) (HasDropped name old)

-- ---- override and revert

-- the content that the device's record says of the name
abbrev pub content_owned : Option Entry → Content
content_owned None = Deleted
content_owned (Some own) = content_of own

-- each other name has the record and the file that it had, and pulls and views are as they were
pub record KeepsOtherNames (name : FileName) (old new : Replica) : Type 0 where
  pub records : (other : FileName) → other ≢ name → own_at new other ≡ own_at old other
  pub files : (other : FileName) → other ≢ name → node_at new other ≡ node_at old other
  pub pulls : new.pulls ≡ old.pulls
  pub views : new.views ≡ old.views

-- an override puts the own content above the chosen record; no file changes
abbrev pub OverrideWins : Type 0
OverrideWins =
    (device : Device) (name : FileName) (old : Replica) (chosen : Entry) → 1 ≤ device → IsSoundReplica device old →
    old.kind ≡ SendOnly → Chooses device old name chosen → IsOverridable (own_at old name) chosen →
    max (counter_of (version_of (own_at old name)) device) (counter_of chosen.version device) ≢ greatest_counter →
    ids_with device (version_of (own_at old name)) chosen.version ≤ most_counters → HasRoom old.index name →
    (new : Replica) × (entry : Entry) × OverrideRow device name old new (Done Changed) × (own_at new name ≡ Some entry) ×
    (content_of entry ≡ content_owned (own_at old name)) × IsBelow chosen.version entry.version × (new.store ≡ old.store) ×
    KeepsOtherNames name old new

-- a revert removes the file, and leaves a deletion with an empty version
abbrev pub RevertTakesBack : Type 0
RevertTakesBack =
    (device : Device) (name : FileName) (old : Replica) (own : Entry) →
    old.kind ≡ ReceiveOnly → own_at old name ≡ Some own → own.invalid ≡ true → IsClean (node_at old name) (own_at old name) →
    (¬ IsSequenceFull old.index) →
    (new : Replica) × (entry : Entry) × RevertRow device name None old new (Done Changed) × (own_at new name ≡ Some entry) ×
    (node_at new name ≡ None) × (content_of entry ≡ Deleted) × (entry.invalid ≡ false) × (entry.version ≡ []) ×
    KeepsOtherNames name old new
