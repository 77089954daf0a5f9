-- When a name awaits a record that one device is to make: all that is known elsewhere leads up to it, and nothing at any other
-- device stands in its way. Once it is made it prevails (this project's profile).
use Rattle.std.specs.Prelude.{◌≡◌, ◌≢◌, ◌⊎◌, ◌≤◌, ℕ, false, List, [], Option, None}
use Rattle.bep_record.specs.declared.entry.Entry.{Entry}
use Rattle.bep_record.specs.declared.node.NodeParts.{NodeParts}
use Rattle.bep_record.specs.Content.{Deleted, content_of}
use Rattle.bep_record.specs.Node.{IsClean}
use Rattle.bep_record.specs.Vector.{counter_of, IsAtMost, IsBelow, IsMerge}
use Rattle.bep_model.specs.Tables.{Tables, Device, Folder, FileName, Shares}
use Rattle.bep_model.specs.Foreign.{IsViewed, IsForeign}
use Rattle.bep_model.specs.Settled.{content_of_node}
use Rattle.bep_model.specs.Firm.{AreEqual}
use Rattle.bep_machine.specs.Effects.{content_owned}
use Rattle.bep_machine.specs.Replica.{version_of}
use Rattle.bep_converge.specs.Prevails.{IsOwn, IsAnywhere, IsChain, IsTop, IsNoLocalChange, TakesChanges, LetsIn}

-- ---- a record that is to come

-- a record that is known beside the device's own one: another device has it as its own, or some device has it from elsewhere
abbrev pub IsElsewhere : Tables → Device → Folder → FileName → Entry → Type 0
IsElsewhere t device folder name entry =
    (other : Device) × Shares t other folder × (((other ≢ device) × IsOwn t other folder name entry) ⊎ IsForeign t other folder name entry)

-- All these are one chain, with equal contents at equal versions, and each is at most this version.
pub record IsChainUpTo (t : Tables) (device : Device) (folder : Folder) (name : FileName) (version : List (ℕ × ℕ)) : Type 0 where
  pub in_line : (one other : Entry) → IsElsewhere t device folder name one → IsElsewhere t device folder name other →
      IsAtMost one.version other.version ⊎ IsAtMost other.version one.version
  pub agree : (one other : Entry) → IsElsewhere t device folder name one → IsElsewhere t device folder name other →
      AreEqual one.version other.version → content_of one ≡ content_of other
  pub within : (entry : Entry) → IsElsewhere t device folder name entry → IsAtMost entry.version version

-- Nothing at the device stands in the way of a record above this version that another one makes of what it holds. The own
-- record is no local change, and the file is clean and has its content. The device takes changes; or it has no record, and
-- what comes is a deletion. And the version counts no more of the device's own changes than its own record does.
pub record MakesWay (t : Tables) (device : Device) (folder : Folder) (name : FileName) (version : List (ℕ × ℕ)) (held : Option NodeParts) : Type 0 where
  pub not_local : IsNoLocalChange (t.own device folder name)
  pub clean : IsClean (t.node device folder name) (t.own device folder name)
  pub holds : content_of_node (t.node device folder name) ≡ content_owned (t.own device folder name)
  pub takes : TakesChanges t device folder ⊎ ((t.own device folder name ≡ None) × (held ≡ None))
  pub counted : counter_of version device ≤ counter_of (version_of (t.own device folder name)) device

-- the name awaits the record that this device is to make of what it holds, with its counter raised in this version
pub record AwaitsRecord (t : Tables) (device : Device) (folder : Folder) (name : FileName) (version : List (ℕ × ℕ)) (held : Option NodeParts) : Type 0 where
  pub shares : Shares t device folder
  pub chain : IsChainUpTo t device folder name version
  pub others : (other : Device) → other ≢ device → Shares t other folder → MakesWay t other folder name version held

-- ---- a scan

-- the name awaits the device's scan: the file isn't clean, and nothing that is known elsewhere is beyond the own record
pub record AwaitsScan (t : Tables) (device : Device) (folder : Folder) (name : FileName) : Type 0 where
  pub unclean : ¬ IsClean (t.node device folder name) (t.own device folder name)
  pub awaits : AwaitsRecord t device folder name (version_of (t.own device folder name)) (t.node device folder name)

-- ---- a revert

-- The name awaits that the device takes its local change back: the top stands, all others let it in, and no record counts any
-- change of the device's. (A deletion with an empty version takes the local change's place. A record of an empty version that
-- is known is a deletion, too.)
pub record AwaitsRevert (t : Tables) (device : Device) (folder : Folder) (name : FileName) (top : Entry) : Type 0 where
  pub shares : Shares t device folder
  pub chain : IsChain t folder name
  pub top_of : IsTop t folder name top
  pub others : (other : Device) → other ≢ device → Shares t other folder → LetsIn t other folder name top
  pub uncounted : (entry : Entry) → IsAnywhere t folder name entry → counter_of entry.version device ≡ 0
  pub empty : (entry : Entry) → IsAnywhere t folder name entry → IsAtMost entry.version [] → content_of entry ≡ Deleted

-- ---- an override

-- a valid record that the device has seen, and that no other one that it has seen is above
pub record IsForemost (t : Tables) (device : Device) (folder : Folder) (name : FileName) (entry : Entry) : Type 0 where
  pub viewed : IsViewed t device folder name entry
  pub valid : entry.invalid ≡ false
  pub undominated : (other : Entry) → IsViewed t device folder name other → other.invalid ≡ false → ¬ IsBelow entry.version other.version

-- The name awaits the device's override: its own record is no local change, its file is clean and has the record's content, and
-- nothing that is known elsewhere is beyond the own record merged with what it has seen.
pub record AwaitsOverride (t : Tables) (device : Device) (folder : Folder) (name : FileName) : Type 0 where
  pub not_local : IsNoLocalChange (t.own device folder name)
  pub clean : IsClean (t.node device folder name) (t.own device folder name)
  pub holds : content_of_node (t.node device folder name) ≡ content_owned (t.own device folder name)
  pub awaits : (seen : Entry) (merged : List (ℕ × ℕ)) → IsForemost t device folder name seen → IsMerge (version_of (t.own device folder name)) seen.version merged →
      AwaitsRecord t device folder name merged (t.node device folder name)
