-- That a cluster is ready once one device made the change that a name awaits: an override, a revert, or an edit and a scan. So
-- what the device has then, or what stood on the top, comes to all; the functions of src/ready.rt have these as contracts (this
-- project's profile).
use Rattle.std.specs.Prelude.{◌≡◌, ◌⊎◌, ◌+◌, ◌≤◌, ℕ, Option, Some, IsSome}
use Rattle.std.specs.FinMap.{get, len}
use Rattle.bep_map.specs.NameMap.{ByName}
use Rattle.bep_record.specs.declared.entry.Entry.{Entry}
use Rattle.bep_record.specs.declared.node.NodeParts.{NodeParts}
use Rattle.bep_record.specs.Node.{IsNode, IsClean}
use Rattle.bep_index.specs.declared.limits.TheConstants.{MAX_NAMES, MAX_SEQUENCE}
use Rattle.bep_model.specs.Tables.{Tables, Device, Folder, FileName}
use Rattle.bep_model.specs.Foreign.{IsKnown}
use Rattle.bep_machine.specs.declared.limits.TheConstants.{MAX_EPOCH}
use Rattle.bep_machine.specs.declared.moved.Moved.{Moved}
use Rattle.bep_machine.specs.declared.step.Step.TheVariants.{Edit, Scan, Override, Revert}
use Rattle.bep_machine.specs.Answer.{Done}
use Rattle.bep_machine.specs.Replica.{Replica, version_of}
use Rattle.bep_machine.specs.Cluster.{Cluster}
use Rattle.bep_machine.specs.Steps.{IsStep}
use Rattle.bep_machine.specs.Said.{tables_of_cluster}
use Rattle.bep_machine.specs.Sound.{IsSound}
use Rattle.bep_converge.specs.Prevails.{Prevails}
use Rattle.bep_converge.specs.Received.{AllHaveHashes}
use Rattle.bep_converge.specs.Awaits.{AwaitsRecord, AwaitsOverride, AwaitsRevert}
use Rattle.bep_converge.specs.AfterLaws.{RecordsChanges}
use Rattle.bep_converge.specs.Bring.{IsJoinedUp, IsReached, IsReady}

-- this is the name in its folder
abbrev pub IsThisName : Folder → FileName → Folder → FileName → Type 0
IsThisName folder name any one = (any ≡ folder) × (one ≡ name)

-- each other known name prevails
abbrev pub OthersPrevail : Tables → Folder → FileName → Type 0
OthersPrevail t folder name = (any : Folder) (one : FileName) → IsKnown t any one → ¬ IsThisName folder name any one → (top : Entry) × Prevails t any one top

-- There is room for so many runs that bring a name, and for one more record; and for this name beside all known ones, which it may
-- not be yet.
pub record HasRoomBeside (turns : ℕ) (cluster : Cluster) (folder : Folder) (name : FileName) : Type 0 where
  pub numbers : (device : Device) (any : Folder) (replica : Replica) → get (cluster.peer device).replicas any ≡ Some replica → replica.index.sequence + turns + 1 ≤ MAX_SEQUENCE
  pub epochs : (device other : Device) → (cluster.link device other).epoch + turns ≤ MAX_EPOCH
  pub names : (any : Folder) (records : ByName Entry) → ((one : FileName) → IsSome (get records one) → IsKnown (tables_of_cluster cluster) any one ⊎ IsThisName folder name any one) → len records ≤ MAX_NAMES

-- the cluster is ready for so many runs, but for this name, of which a device has something to do
pub record IsReadyBut (turns : ℕ) (cluster : Cluster) (folder : Folder) (name : FileName) : Type 0 where
  pub sound : IsSound cluster
  pub hashes : AllHaveHashes cluster
  pub reached : IsReached cluster
  pub others : OthersPrevail (tables_of_cluster cluster) folder name
  pub joined : IsJoinedUp cluster.config
  pub room : HasRoomBeside turns cluster folder name

-- after the override it's ready: the device's own content prevails, as OverrideMakesTop says
abbrev pub OverrideMakesReady : Type 0
OverrideMakesReady = (turns : ℕ) (device : Device) (folder : Folder) (name : FileName) (failed : Option ℕ) (old new : Cluster) (moved : Moved) →
    IsReadyBut turns old folder name → AwaitsOverride (tables_of_cluster old) device folder name →
    IsStep (Override device folder name) failed old new (Done moved) → IsReady turns new

-- after the revert it's ready: the top prevails, as RevertLetsIn says
abbrev pub RevertMakesReady : Type 0
RevertMakesReady = (turns : ℕ) (device : Device) (folder : Folder) (name : FileName) (failed : Option ℕ) (old new : Cluster) (moved : Moved) (top : Entry) →
    IsReadyBut turns old folder name → AwaitsRevert (tables_of_cluster old) device folder name top →
    IsStep (Revert device folder name) failed old new (Done moved) → IsReady turns new

-- after an edit, as `touch` is, and a scan it's ready: the edited file's record prevails, as EditMakesTop says
abbrev pub EditMakesReady : Type 0
EditMakesReady = (turns : ℕ) (device : Device) (folder : Folder) (name : FileName) (node : NodeParts) (failed fails : Option ℕ) (old edited new : Cluster) (moved scanned : Moved) →
    IsNode node → IsReadyBut turns old folder name → RecordsChanges (tables_of_cluster old) device folder →
    (¬ IsClean (Some node) ((tables_of_cluster old).own device folder name)) →
    AwaitsRecord (tables_of_cluster old) device folder name (version_of ((tables_of_cluster old).own device folder name)) (Some node) →
    IsStep (Edit device folder name node) failed old edited (Done moved) → IsStep (Scan device folder name) fails edited new (Done scanned) → IsReady turns new
