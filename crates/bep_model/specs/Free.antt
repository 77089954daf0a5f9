-- What peers may do that are free to choose: which record they pull, which version the pulled record gets, how a conflict
-- copy is named, what they announce, and when. A table changes only as a definition here permits (BEP v1; what is permitted
-- is this project's profile).
use Rattle.std.specs.Prelude.{◌≡◌, ◌⊎◌, true, false, List, [], ◌∷◌, Option, Some, None, Contains}
use Rattle.bep_record.specs.declared.entry.Entry.{Entry}
use Rattle.bep_record.specs.Node.{IsClean}
use Rattle.bep_record.specs.Vector.{IsAtMost}
use Rattle.bep_model.specs.declared.flight.Flight.{Flight}
use Rattle.bep_model.specs.Tables.{Tables, Device, Folder, FileName, Shares}
use Rattle.bep_model.specs.Foreign.{IsViewed, IsFlying, IsTarget}

-- The record is news to a device with this own record: its version isn't at most the own one. Against a local-only own
-- record each one is; without an own record, each one that isn't deleted.
abbrev pub IsNews : Option Entry → Entry → Type 0
IsNews None entry = entry.deleted ≡ false
IsNews (Some own) entry = (own.invalid ≡ true) ⊎ (¬ IsAtMost entry.version own.version)

-- the device has the record from elsewhere, in a view or as the target of a pull
abbrev pub IsHad : Tables → Device → Folder → FileName → Entry → Type 0
IsHad t device folder name entry = IsViewed t device folder name entry ⊎ IsTarget t device folder name entry

-- the device has a record from elsewhere that it may want: one that isn't invalid, and is news
pub record MayWant (t : Tables) (device : Device) (folder : Folder) (name : FileName) : Type 0 where
  pub entry : Entry
  pub had : IsHad t device folder name entry
  pub valid : entry.invalid ≡ false
  pub news : IsNews (t.own device folder name) entry

-- A device may record something else of a name that a scan finds changed, or of which it may want a record.
abbrev pub MayRecord : Tables → Device → Folder → FileName → Type 0
MayRecord t device folder name =
    (¬ IsClean (t.node device folder name) (t.own device folder name)) ⊎ MayWant t device folder name

-- A device may write and remove files in a folder where it may want a record of some name: the file of that name, and a
-- conflict copy under any other.
abbrev pub MayWrite : Tables → Device → Folder → Type 0
MayWrite t device folder = (name : FileName) × MayWant t device folder name

-- a device may send its own records, and any that are marked invalid
abbrev pub CarriesOwn : Tables → Device → Flight → Type 0
CarriesOwn t sender flight =
    (entry : Entry) → Contains flight.records entry → entry.invalid ≡ false → t.own sender flight.folder entry.name ≡ Some entry

-- What one step may make of a cluster. Each sharing device's records and files stay, or it was permitted to change them. It
-- has nothing from elsewhere but what it had, or what was on its way to it. What is on its way was so before, or is sent.
-- Records may be forgotten, pulls given up and messages lost at any time.
pub record MayBecome (old new : Tables) : Type 0 where
  pub sharing : (folder : Folder) → new.sharing folder ≡ old.sharing folder
  pub own : (device : Device) (folder : Folder) (name : FileName) → Shares old device folder →
      (new.own device folder name ≡ old.own device folder name) ⊎ MayRecord old device folder name
  pub node : (device : Device) (folder : Folder) (name : FileName) → Shares old device folder →
      (new.node device folder name ≡ old.node device folder name) ⊎ MayWrite old device folder
  pub had : (device : Device) (folder : Folder) (name : FileName) (entry : Entry) → Shares old device folder →
      IsHad new device folder name entry → IsHad old device folder name entry ⊎ IsFlying old device folder name entry
  pub flying : (sender receiver : Device) (flight : Flight) → Contains (new.flying sender receiver) flight →
      Contains (old.flying sender receiver) flight ⊎ CarriesOwn old sender flight

-- a run of free peers: each step leads from some tables to the next
abbrev pub IsFreeRun : Tables → List Tables → Tables → Type 0
IsFreeRun old [] new = new ≡ old
IsFreeRun old (next ∷ more) new = MayBecome old next × IsFreeRun next more new
