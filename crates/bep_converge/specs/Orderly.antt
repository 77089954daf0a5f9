-- What orderly peers may do: free peers that write no file but the one whose record they take over, and a conflict copy beside
-- it only where there is a conflict; and that record only what isn't clean. All else is free: which news they take, order,
-- timing and losses, what they send and when (BEP v1; what is permitted is this project's profile).
use Rattle.std.specs.Prelude.{◌≡◌, ◌⊎◌, ◌<◌, ◌≤◌, ℕ, max, false, List, [], ◌∷◌, Option, Some}
use Rattle.bep_record.specs.declared.entry.Entry.{Entry}
use Rattle.bep_record.specs.declared.node.NodeParts.{NodeParts}
use Rattle.bep_record.specs.Content.{content_of}
use Rattle.bep_record.specs.Node.{IsClean}
use Rattle.bep_record.specs.Vector.{counter_of, IsAtMost, AreConcurrent}
use Rattle.bep_model.specs.Tables.{Tables, Device, Folder, FileName, Shares}
use Rattle.bep_model.specs.Settled.{content_of_node}
use Rattle.bep_model.specs.Free.{MayWant, MayBecome}
use Rattle.bep_machine.specs.Effects.{content_owned}
use Rattle.bep_machine.specs.Replica.{version_of}
use Rattle.bep_converge.specs.Prevails.{TakesChanges}

-- ---- taking a record over

-- from the target's version to that and the own one merged
pub record IsUpToMerge (own target version : List (ℕ × ℕ)) : Type 0 where
  pub from_target : IsAtMost target version
  pub up_to_merge : (id : ℕ) → counter_of version id ≤ max (counter_of own id) (counter_of target id)

-- The file is clean against the record that was taken over, and has its content. Where the own record told this content
-- before, no byte is fetched, and the file has what it had.
pub record HasTakenFile (own : Option Entry) (before : Option NodeParts) (taken : Entry) (after : Option NodeParts) : Type 0 where
  pub clean : IsClean after (Some taken)
  pub content : (content_of_node after ≡ content_of taken) ⊎ ((content_owned own ≡ content_of taken) × (content_of_node after ≡ content_of_node before))

-- The device takes over a record that it may want, unless the record has another content and the device only sends. The new
-- own record has the target's content, and a version from the target's to the merge.
pub record Takes (old new : Tables) (device : Device) (folder : Folder) (name : FileName) : Type 0 where
  pub wants : MayWant old device folder name
  pub fits : (content_of wants.entry ≡ content_owned (old.own device folder name)) ⊎ TakesChanges old device folder
  pub taken : Entry
  pub own : new.own device folder name ≡ Some taken
  pub valid : taken.invalid ≡ false
  pub content : content_of taken ≡ content_of wants.entry
  pub version : IsUpToMerge (version_of (old.own device folder name)) wants.entry.version taken.version
  pub file : HasTakenFile (old.own device folder name) (old.node device folder name) taken (new.node device folder name)

-- ---- what else may change

-- the record and the file of the name are as they were
abbrev pub StaysAt : Tables → Tables → Device → Folder → FileName → Type 0
StaysAt old new device folder name = (new.own device folder name ≡ old.own device folder name) × (new.node device folder name ≡ old.node device folder name)

-- a scan records what isn't clean, and leaves the file
abbrev pub Records : Tables → Tables → Device → Folder → FileName → Type 0
Records old new device folder name = (¬ IsClean (old.node device folder name) (old.own device folder name)) × (new.node device folder name ≡ old.node device folder name)

-- Of some name the device may want a record that is in conflict with the own one: they are concurrent, or the wanted one
-- counts more of the device's own changes. Then a conflict copy may be made, under any name.
pub record MayCopy (t : Tables) (device : Device) (folder : Folder) : Type 0 where
  pub name : FileName
  pub wants : MayWant t device folder name
  pub conflict : AreConcurrent (version_of (t.own device folder name)) wants.entry.version ⊎
      (counter_of (version_of (t.own device folder name)) device < counter_of wants.entry.version device)

-- the file may be a conflict copy; its name's record stays
abbrev pub Copies : Tables → Tables → Device → Folder → FileName → Type 0
Copies old new device folder name = MayCopy old device folder × (new.own device folder name ≡ old.own device folder name)

-- ---- steps and runs

-- what may be made of a name at a device
abbrev pub IsOrderlyAt : Tables → Tables → Device → Folder → FileName → Type 0
IsOrderlyAt old new device folder name =
    StaysAt old new device folder name ⊎ (Takes old new device folder name ⊎ (Records old new device folder name ⊎ Copies old new device folder name))

-- an orderly step is a free one that makes of each name only what is said here
pub record IsOrderlyStep (old new : Tables) : Type 0 where
  pub free : MayBecome old new
  pub orderly : (device : Device) (folder : Folder) (name : FileName) → Shares old device folder → IsOrderlyAt old new device folder name

-- a run of orderly peers: each step leads from some tables to the next
abbrev pub IsOrderlyRun : Tables → List Tables → Tables → Type 0
IsOrderlyRun old [] new = new ≡ old
IsOrderlyRun old (next ∷ more) new = IsOrderlyStep old next × IsOrderlyRun next more new
