-- What holds of each document that is read: none of the faults is in it (this project's profile).
use Rattle.std.specs.Prelude.{◌≡◌, ◌≢◌, ◌<◌, ◌≤◌, ℕ, IsTrue, false, ⊤, List, [], ◌∷◌, length, None, Any, Contains}
use Rattle.std.specs.List.{AllByRecursion}
use Rattle.bep_record.specs.declared.entry.Entry.{Entry}
use Rattle.bep_record.specs.Entry.{IsWellFormed}
use Rattle.bep_record.specs.Node.{IsNode}
use Rattle.bep_index.specs.Batch.{IsBatch, NamesDiffer}
use Rattle.bep_index.specs.declared.limits.TheConstants.{MAX_NAMES, MAX_SEQUENCE}
use Rattle.serde_json.specs.Data.{Data}
use Rattle.bep_document.specs.Reading.{Read, first_fault, reading_of, reading_of_cut, reading_of_cut_document}
use Rattle.bep_document.specs.read.Devices.{has_few_devices}
use Rattle.bep_record.specs.declared.limits.TheConstants.{MAX_FOLDERS, MAX_DEVICES, MAX_PULLS, MAX_MESSAGES}
use Rattle.bep_document.specs.declared.parts.ShareParts.{ShareParts}
use Rattle.bep_document.specs.declared.parts.ViewParts.{ViewParts}
use Rattle.bep_document.specs.declared.parts.FolderParts.{FolderParts}
use Rattle.bep_document.specs.declared.parts.FlightParts.{FlightParts}
use Rattle.bep_document.specs.declared.parts.LinkParts.{LinkParts}
use Rattle.bep_document.specs.declared.parts.RowParts.{RowParts}
use Rattle.bep_json.specs.declared.version.DocVersion.{DocVersion}
use Rattle.bep_document.specs.declared.parts.CheckParts.{CheckParts}

-- none of the items has this key
abbrev pub HasNoKey : {A K : Type 0} → (A → K) → K → List A → Type 0
HasNoKey key k [] = ⊤
HasNoKey key k (item ∷ more) = (key item ≢ k) × HasNoKey key k more

-- each two items have different keys
abbrev pub KeysDiffer : {A K : Type 0} → (A → K) → List A → Type 0
KeysDiffer key [] = ⊤
KeysDiffer key (item ∷ more) = HasNoKey key (key item) more × KeysDiffer key more

-- the sequence is from 1 to the greatest
abbrev pub IsNumbered : ℕ → Entry → Type 0
IsNumbered greatest entry = (1 ≤ entry.sequence) × (entry.sequence ≤ greatest)

-- the records of an index, as far as this sequence
pub record IsFaultlessIndex (greatest : ℕ) (entries : List Entry) : Type 0 where
  pub within : greatest ≤ MAX_SEQUENCE
  pub few : length entries ≤ MAX_NAMES
  pub names : NamesDiffer entries
  pub well_formed : AllByRecursion IsWellFormed entries
  pub numbered : AllByRecursion (IsNumbered greatest) entries
  pub sequences : KeysDiffer (λ entry. entry.sequence) entries

-- the records that a device pulls
pub record ArePulls (pulls : List Entry) : Type 0 where
  pub few : length pulls ≤ MAX_PULLS
  pub names : NamesDiffer pulls
  pub well_formed : AllByRecursion IsWellFormed pulls
  pub valid : AllByRecursion (λ entry. entry.invalid ≡ false) pulls
  pub within : AllByRecursion (λ entry. entry.sequence ≤ MAX_SEQUENCE) pulls

-- a device that shares a folder
pub record IsFaultlessShare (share : ShareParts) : Type 0 where
  pub own_records : IsFaultlessIndex share.max share.own
  pub store_names : KeysDiffer (λ node. node.name) share.store
  pub nodes : AllByRecursion (λ node. IsNode node.parts) share.store
  pub viewed : KeysDiffer (λ view. view.of) share.views
  pub views : AllByRecursion (λ view. IsFaultlessIndex view.max view.records) share.views
  pub pulled : ArePulls share.pulls

-- the device shares the folder
abbrev pub IsSharedBy : ℕ → FolderParts → Type 0
IsSharedBy device folder = Any (λ share. share.device ≡ device) folder.devices

-- a view of another device that shares the folder
abbrev pub IsOfAnother : FolderParts → ShareParts → ViewParts → Type 0
IsOfAnother folder share view = (view.of ≢ share.device) × IsSharedBy view.of folder

-- a folder
pub record IsFaultlessFolder (folder : FolderParts) : Type 0 where
  pub few : length folder.devices ≤ MAX_DEVICES
  pub different : KeysDiffer (λ share. share.device) folder.devices
  pub shares : AllByRecursion IsFaultlessShare folder.devices
  pub views : AllByRecursion (λ share. AllByRecursion (IsOfAnother folder share) share.views) folder.devices

-- the device shares one of the folders
abbrev pub IsDeviceOf : List FolderParts → ℕ → Type 0
IsDeviceOf folders device = Any (IsSharedBy device) folders

-- the device shares the folder of this name
abbrev pub SharesFolder : List FolderParts → List ℕ → ℕ → Type 0
SharesFolder folders name device = Any (λ folder. (folder.folder ≡ name) × IsSharedBy device folder) folders

-- a message on its way, of a folder that both ends of its link share
pub record IsFaultlessFlight (folders : List FolderParts) (link : LinkParts) (flight : FlightParts) : Type 0 where
  pub batch : IsBatch flight.records
  pub well_formed : AllByRecursion IsWellFormed flight.records
  pub shared_by_a : SharesFolder folders flight.folder link.a
  pub shared_by_b : SharesFolder folders flight.folder link.b

-- the ends of a link
abbrev pub ends_of : LinkParts → ℕ × ℕ
ends_of link = (link.a, link.b)

-- a link
pub record IsFaultlessLink (folders : List FolderParts) (link : LinkParts) : Type 0 where
  pub ends : link.a < link.b
  pub a_device : IsDeviceOf folders link.a
  pub b_device : IsDeviceOf folders link.b
  pub epoch : link.epoch ≤ MAX_SEQUENCE
  pub quiet : link.up ≡ false → (link.to_a ≡ []) × (link.to_b ≡ [])
  pub few_to_a : length link.to_a ≤ MAX_MESSAGES
  pub few_to_b : length link.to_b ≤ MAX_MESSAGES
  pub to_a : AllByRecursion (IsFaultlessFlight folders link) link.to_a
  pub to_b : AllByRecursion (IsFaultlessFlight folders link) link.to_b

-- each device that shares a folder is one of these
abbrev pub AreOf : List ℕ → List FolderParts → Type 0
AreOf devices folders =
    AllByRecursion (λ folder. AllByRecursion (λ share. Contains devices share.device) folder.devices) folders

-- the cut and its certificate
pub record IsFaultless (parts : CheckParts) : Type 0 where
  pub few_folders : length parts.folders ≤ MAX_FOLDERS
  pub few_devices : (devices : List ℕ) × (length devices ≤ MAX_DEVICES) × AreOf devices parts.folders
  pub different : KeysDiffer (λ folder. folder.folder) parts.folders
  pub each_folder : AllByRecursion IsFaultlessFolder parts.folders
  pub different_links : KeysDiffer ends_of parts.links
  pub each_link : AllByRecursion (IsFaultlessLink parts.folders) parts.links
  pub rows : AllByRecursion (λ row. IsWellFormed row.entry) parts.certificate

-- what is read has no fault, of the bytes of a document, of the tree of a cut, or of the cut of a document
abbrev pub ReadingsAreFaultless : Type 0
ReadingsAreFaultless = (bytes : List ℕ) (parts : CheckParts) → reading_of bytes ≡ Read parts → IsFaultless parts

-- the rows of what is read have sequences within the limit
abbrev pub AreInRange : List RowParts → Type 0
AreInRange rows = AllByRecursion (λ row. row.entry.sequence ≤ MAX_SEQUENCE) rows

abbrev pub RowsAreInRange : Type 0
RowsAreInRange = (bytes : List ℕ) (parts : CheckParts) → reading_of bytes ≡ Read parts → AreInRange parts.certificate

abbrev pub CutsAreFaultless : Type 0
CutsAreFaultless = (version : DocVersion) (tree : Data) (parts : CheckParts) → reading_of_cut version tree ≡ Read parts → IsFaultless parts

-- no fault that has a place is found in parts that have none, and their devices are few
abbrev pub FaultlessHasNoFault : Type 0
FaultlessHasNoFault = (parts : CheckParts) → IsFaultless parts → first_fault parts ≡ None

abbrev pub FaultlessHasFewDevices : Type 0
FaultlessHasFewDevices = (parts : CheckParts) → IsFaultless parts → IsTrue (has_few_devices parts.folders)

abbrev pub CutDocumentsAreFaultless : Type 0
CutDocumentsAreFaultless = (bytes : List ℕ) (parts : CheckParts) → reading_of_cut_document bytes ≡ Read parts → IsFaultless parts
