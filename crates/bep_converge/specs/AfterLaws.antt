-- What is proved of a cut in which one device alone has something to do, once it did it; the functions of src/after.rt have
-- these as contracts.
use Rattle.std.specs.Prelude.{◌≡◌, ◌≢◌, ◌⊎◌, ℕ, ℤ, ⊤, List, [], ◌∷◌, Option, Some, None, Contains}
use Rattle.std.specs.FinMap.{get}
use Rattle.bep_record.specs.declared.entry.Entry.{Entry}
use Rattle.bep_record.specs.declared.kind.Kind.TheVariants.{File}
use Rattle.bep_record.specs.declared.node.NodeParts.{NodeParts}
use Rattle.bep_record.specs.declared.folder_kind.FolderKind.{FolderKind}
use Rattle.bep_record.specs.declared.folder_kind.FolderKind.TheVariants.{ReceiveOnly}
use Rattle.bep_record.specs.Node.{IsNode, IsClean}
use Rattle.bep_record.specs.Vector.{counter_of, greatest_counter}
use Rattle.bep_store.specs.Store.{at_time}
use Rattle.bep_model.specs.Tables.{Tables, Device, Folder, FileName, SharesAs}
use Rattle.bep_model.specs.Foreign.{IsKnown}
use Rattle.bep_model.specs.Settled.{content_of_node}
use Rattle.bep_machine.specs.declared.moved.Moved.{Moved}
use Rattle.bep_machine.specs.declared.moved.Moved.TheVariants.{Changed}
use Rattle.bep_machine.specs.declared.step.Step.TheVariants.{Edit, Scan, Override, Revert}
use Rattle.bep_machine.specs.Answer.{Done}
use Rattle.bep_machine.specs.Effects.{HasRoom, content_owned}
use Rattle.bep_machine.specs.Local.{IsCrowded}
use Rattle.bep_machine.specs.Replica.{Replica, own_at, version_of}
use Rattle.bep_machine.specs.Cluster.{Cluster}
use Rattle.bep_machine.specs.Steps.{IsStep, Event, IsRun}
use Rattle.bep_machine.specs.Said.{tables_of_cluster}
use Rattle.bep_machine.specs.Sound.{IsSound}
use Rattle.bep_converge.specs.Prevails.{Prevails, AllPrevail}
use Rattle.bep_converge.specs.Awaits.{AwaitsRecord, AwaitsScan, AwaitsOverride, AwaitsRevert}
use Rattle.bep_converge.specs.Tops.{ChangesAlone, LeavesOthers, MakesTop}

-- ---- a scan

-- the device shares the folder in no kind that marks what it finds as local-only
abbrev pub RecordsChanges : Tables → Device → Folder → Type 0
RecordsChanges t device folder = (kind : FolderKind) → SharesAs t device folder kind → kind ≢ ReceiveOnly

-- The device's scan of a name that awaits it, if it is made, records what the device holds, and this record prevails.
abbrev pub ScanMakesTop : Type 0
ScanMakesTop = (device : Device) (folder : Folder) (name : FileName) (failed : Option ℕ) (old new : Cluster) (moved : Moved) →
    IsSound old → RecordsChanges (tables_of_cluster old) device folder → AwaitsScan (tables_of_cluster old) device folder name →
    IsStep (Scan device folder name) failed old new (Done moved) →
    MakesTop (tables_of_cluster old) (tables_of_cluster new) device folder name (content_of_node ((tables_of_cluster old).node device folder name))

-- there is room for one more change of the device's, in the name's version and in the index
pub record HasRoomToRaise (cluster : Cluster) (device : Device) (folder : Folder) (name : FileName) : Type 0 where
  pub replica : Replica
  pub here : get (cluster.peer device).replicas folder ≡ Some replica
  pub counter : counter_of (version_of (own_at replica name)) device ≢ greatest_counter
  pub few : ¬ IsCrowded device (version_of (own_at replica name))
  pub room : HasRoom replica.index name

-- and where there is room, it can be made
abbrev pub ScanCanBeMade : Type 0
ScanCanBeMade = (device : Device) (folder : Folder) (name : FileName) (old : Cluster) →
    IsSound old → RecordsChanges (tables_of_cluster old) device folder → AwaitsScan (tables_of_cluster old) device folder name →
    HasRoomToRaise old device folder name → (new : Cluster) × IsStep (Scan device folder name) None old new (Done Changed)

-- ---- all that is unclean at one device

-- the names, each with its folder
abbrev pub Places : Type 0
Places = List (Folder × FileName)

-- the events are the device's scans of these names, and each was made
abbrev pub AreScans : Device → Places → List Event → Type 0
AreScans device [] [] = ⊤
AreScans device (place ∷ places) (event ∷ events) =
    (event.step ≡ Scan device place.0 place.1) × ((moved : Moved) × (event.answer ≡ Done moved)) × AreScans device places events
AreScans _ _ _ = ⊥

-- each known name prevails, or is one of these and awaits the device's scan
abbrev pub AllPrevailBut : Tables → Device → Places → Type 0
AllPrevailBut t device places = (folder : Folder) (name : FileName) → IsKnown t folder name →
    ((top : Entry) × Prevails t folder name top) ⊎ (Contains places (folder, name) × RecordsChanges t device folder × AwaitsScan t device folder name)

-- where one device alone has unclean names, its scans of these lead to a cut that prevails
abbrev pub ScansMakeTops : Type 0
ScansMakeTops = (device : Device) (places : Places) (old new : Cluster) (events : List Event) →
    IsSound old → AllPrevailBut (tables_of_cluster old) device places → AreScans device places events → IsRun old events new →
    AllPrevail (tables_of_cluster new)

-- ---- an edit and a scan, as `touch` is

-- Where nothing that is known elsewhere is beyond the device's own record, an edit and then a scan make the edited file's
-- record, and it prevails.
abbrev pub EditMakesTop : Type 0
EditMakesTop = (device : Device) (folder : Folder) (name : FileName) (node : NodeParts) (failed fails : Option ℕ) (old edited new : Cluster) (moved scanned : Moved) →
    IsNode node → IsSound old → RecordsChanges (tables_of_cluster old) device folder →
    (¬ IsClean (Some node) ((tables_of_cluster old).own device folder name)) →
    AwaitsRecord (tables_of_cluster old) device folder name (version_of ((tables_of_cluster old).own device folder name)) (Some node) →
    IsStep (Edit device folder name node) failed old edited (Done moved) → IsStep (Scan device folder name) fails edited new (Done scanned) →
    MakesTop (tables_of_cluster old) (tables_of_cluster new) device folder name (content_of_node (Some node))

-- A file that gets another time isn't clean any more, and has its content still. So a device whose record is behind none puts
-- that content above all records by `touch`.
abbrev pub TouchIsSeen : Type 0
TouchIsSeen = (held : NodeParts) (own : Entry) (seconds : ℤ) (nanoseconds : ℕ) →
    IsClean (Some held) (Some own) → held.kind ≡ File → (¬ ((seconds ≡ held.modified_s) × (nanoseconds ≡ held.modified_ns))) →
    (¬ IsClean (Some (at_time held seconds nanoseconds)) (Some own)) × (content_of_node (Some (at_time held seconds nanoseconds)) ≡ content_of_node (Some held))

-- ---- an override

-- The device's override of a name that awaits it, if it is made, puts the device's content above all records, and it prevails.
abbrev pub OverrideMakesTop : Type 0
OverrideMakesTop = (device : Device) (folder : Folder) (name : FileName) (failed : Option ℕ) (old new : Cluster) (moved : Moved) →
    IsSound old → AwaitsOverride (tables_of_cluster old) device folder name →
    IsStep (Override device folder name) failed old new (Done moved) →
    MakesTop (tables_of_cluster old) (tables_of_cluster new) device folder name (content_owned ((tables_of_cluster old).own device folder name))

-- ---- a revert

-- The device's revert of a name that awaits it, if it is made, lets the top prevail.
abbrev pub RevertLetsIn : Type 0
RevertLetsIn = (device : Device) (folder : Folder) (name : FileName) (failed : Option ℕ) (old new : Cluster) (moved : Moved) (top : Entry) →
    IsSound old → AwaitsRevert (tables_of_cluster old) device folder name top →
    IsStep (Revert device folder name) failed old new (Done moved) →
    Prevails (tables_of_cluster new) folder name top × ChangesAlone (tables_of_cluster old) (tables_of_cluster new) device folder name ×
    LeavesOthers (tables_of_cluster old) (tables_of_cluster new) folder name
