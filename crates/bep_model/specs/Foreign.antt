-- What a device has of others, and which names are known (this project's profile).
use Rattle.std.specs.Prelude.{◌≡◌, ◌⊎◌, false, List, Option, Some, None, IsSome, Contains}
use Rattle.bep_record.specs.declared.entry.Entry.{Entry}
use Rattle.bep_record.specs.Content.{Content, content_of}
use Rattle.bep_record.specs.Vector.{IsBelow}
use Rattle.bep_model.specs.Tables.{Tables, Device, Folder, FileName, Shares}
use Rattle.bep_model.specs.declared.flight.Flight.{Flight}

-- some view of the device's has this record
abbrev pub IsViewed : Tables → Device → Folder → FileName → Entry → Type 0
IsViewed t device folder name entry = (other : Device) × (t.viewed device other folder name ≡ Some entry)

-- an Index or Index Update with this record is on its way to the device, from one that shares the folder
pub record IsFlying (t : Tables) (device : Device) (folder : Folder) (name : FileName) (entry : Entry) : Type 0 where
  pub sender : Device
  pub shares : Shares t sender folder
  pub flight : Flight
  pub sent : Contains (t.flying sender device) flight
  pub same_folder : flight.folder ≡ folder
  pub carried : Contains flight.records entry
  pub same_name : entry.name ≡ name

-- the device pulls this record
abbrev pub IsTarget : Tables → Device → Folder → FileName → Entry → Type 0
IsTarget t device folder name entry = t.target device folder name ≡ Some entry

-- a record of a name that a device has from elsewhere: seen, on its way or being pulled; invalid ones don't count
pub record IsForeign (t : Tables) (device : Device) (folder : Folder) (name : FileName) (entry : Entry) : Type 0 where
  pub known_by : IsViewed t device folder name entry ⊎ (IsFlying t device folder name entry ⊎ IsTarget t device folder name entry)
  pub valid : entry.invalid ≡ false

-- a foreign record can't change a name of this content: it has the content itself, or the own record's version
-- is strictly above its version
abbrev pub IsHarmless : Option Entry → Content → Entry → Type 0
IsHarmless None content entry = content_of entry ≡ content
IsHarmless (Some own) content entry = (content_of entry ≡ content) ⊎ IsBelow entry.version own.version

-- something is held, recorded or coming at this name on this device
abbrev pub HasTrace : Tables → Device → Folder → FileName → Type 0
HasTrace t device folder name =
    IsSome (t.node device folder name) ⊎ (IsSome (t.own device folder name) ⊎ ((entry : Entry) × IsForeign t device folder name entry))

-- the name is known in the folder: a store, an own record or a foreign record of a sharing device has it
abbrev pub IsKnown : Tables → Folder → FileName → Type 0
IsKnown t folder name = (device : Device) × Shares t device folder × HasTrace t device folder name

-- what every cut meets: only the records of these devices are viewed, and only these names are known
pub record IsFinite (t : Tables) : Type 0 where
  pub viewed : List Device
  pub names : List (Folder × FileName)
  pub all_viewed : (device other : Device) (folder : Folder) (name : FileName) → IsSome (t.viewed device other folder name) → Contains viewed other
  pub all_known : (folder : Folder) (name : FileName) → IsKnown t folder name → Contains names (folder, name)
