-- How far the names of a folder have come: who shares it, what is known in it, and what is still to come (this project's
-- profile).
use Rattle.std.specs.Prelude.{◌≡◌, ℕ, None}
use Rattle.bep_record.specs.declared.entry.Entry.{Entry}
use Rattle.bep_record.specs.Content.{content_of}
use Rattle.bep_model.specs.Tables.{Tables, Device, Folder, FileName, Shares}
use Rattle.bep_model.specs.Foreign.{IsKnown}
use Rattle.bep_converge.specs.Prevails.{IsTop, IsNoLocalChange, IsAtTop}
use Rattle.bep_converge_check.specs.SoMany.{AreSoMany}
use Rattle.bep_converge_check.specs.declared.progress.FolderProgress as lent

-- the record is the winner of the name: a top, and all tops have its content
pub record IsWinner (t : Tables) (folder : Folder) (name : FileName) (top : Entry) : Type 0 where
  pub top_of : IsTop t folder name top
  pub alone : (other : Entry) → IsTop t folder name other → content_of other ≡ content_of top

-- the name has come to the device: it has a winner, and the device's record is at it, and no local change
abbrev pub HasCome : Tables → Folder → FileName → Device → Type 0
HasCome t folder name device = (top : Entry) × IsWinner t folder name top × IsAtTop (t.own device folder name) top × IsNoLocalChange (t.own device folder name)

-- a name that is known in the folder is still to come to a device that shares it
pub record IsToCome (t : Tables) (folder : Folder) (pair : FileName × Device) : Type 0 where
  pub known : IsKnown t folder pair.0
  pub shares : Shares t pair.1 folder
  pub not_yet : ¬ HasCome t folder pair.0 pair.1

-- the name has come to the device, if it is known in the folder and the device shares it
abbrev pub IsThere : Tables → Folder → FileName × Device → Type 0
IsThere t folder pair = IsKnown t folder pair.0 → Shares t pair.1 folder → HasCome t folder pair.0 pair.1

-- the folder is at its winners: each name has come to each device
abbrev pub IsAtWinners : Tables → Folder → Type 0
IsAtWinners t folder = (name : FileName) (device : Device) → IsKnown t folder name → Shares t device folder → HasCome t folder name device

-- no device that shares the folder holds a file of the name
abbrev pub IsGone : Tables → Folder → FileName → Type 0
IsGone t folder name = (device : Device) → Shares t device folder → t.node device folder name ≡ None

-- a known name of which no device holds a file; and the others
abbrev pub IsDeleted : Tables → Folder → FileName → Type 0
IsDeleted t folder name = IsKnown t folder name × IsGone t folder name

abbrev pub IsUndeleted : Tables → Folder → FileName → Type 0
IsUndeleted t folder name = IsKnown t folder name → ¬ IsGone t folder name

-- how far a folder's names have come
pub record Progress : Type 0 where
  pub folder : Folder
  pub names : ℕ
  pub deleted : ℕ
  pub devices : ℕ
  pub to_come : ℕ

-- the numbers are true: so many names are known in the folder, of so many of these no device holds a file, so many devices share
-- it, and so many pairs of a name and a device are still to come
pub record IsProgress (t : Tables) (one : Progress) : Type 0 where
  pub names : AreSoMany (IsKnown t one.folder) (λ name. ¬ IsKnown t one.folder name) one.names
  pub deleted : AreSoMany (IsDeleted t one.folder) (IsUndeleted t one.folder) one.deleted
  pub devices : AreSoMany (λ device. Shares t device one.folder) (λ device. ¬ Shares t device one.folder) one.devices
  pub to_come : AreSoMany (IsToCome t one.folder) (IsThere t one.folder) one.to_come

-- that whose folder is lent
abbrev pub progress_shown : lent.FolderProgress → Progress
progress_shown one = record { folder = one.folder.now; names = one.names; deleted = one.deleted; devices = one.devices; to_come = one.to_come }
