-- When a record prevails: all that is known of its name leads up to it, and nothing at any device stands in its way. Then it
-- comes to all devices that share the folder, whatever orderly peers do (this project's profile).
use Rattle.std.specs.Prelude.{◌≡◌, ◌≢◌, ◌⊎◌, ◌≤◌, true, false, ⊤, Option, Some, None}
use Rattle.bep_record.specs.declared.entry.Entry.{Entry}
use Rattle.bep_record.specs.declared.folder_kind.FolderKind.{FolderKind}
use Rattle.bep_record.specs.declared.folder_kind.FolderKind.TheVariants.{SendOnly}
use Rattle.bep_record.specs.Content.{content_of}
use Rattle.bep_record.specs.Node.{IsClean}
use Rattle.bep_record.specs.Vector.{counter_of, IsAtMost}
use Rattle.bep_model.specs.Tables.{Tables, Device, Folder, FileName, SharesAs, Shares}
use Rattle.bep_model.specs.Foreign.{IsForeign, IsKnown}
use Rattle.bep_model.specs.Settled.{content_of_node}
use Rattle.bep_model.specs.Firm.{AreEqual}
use Rattle.bep_machine.specs.Effects.{content_owned}
use Rattle.bep_machine.specs.Replica.{version_of}

-- ---- all that is known of a name

-- the record is the device's own, and no local change
abbrev pub IsOwn : Tables → Device → Folder → FileName → Entry → Type 0
IsOwn t device folder name entry = (t.own device folder name ≡ Some entry) × (entry.invalid ≡ false)

-- some device that shares the folder has the record, as its own or from elsewhere; invalid ones don't count
abbrev pub IsAnywhere : Tables → Folder → FileName → Entry → Type 0
IsAnywhere t folder name entry =
    (device : Device) × Shares t device folder × (IsOwn t device folder name entry ⊎ IsForeign t device folder name entry)

-- Of each two records one is at most the other. Where their versions are equal, so are their contents.
pub record IsChain (t : Tables) (folder : Folder) (name : FileName) : Type 0 where
  pub in_line : (one other : Entry) → IsAnywhere t folder name one → IsAnywhere t folder name other →
      IsAtMost one.version other.version ⊎ IsAtMost other.version one.version
  pub agree : (one other : Entry) → IsAnywhere t folder name one → IsAnywhere t folder name other →
      AreEqual one.version other.version → content_of one ≡ content_of other

-- the record is some device's own, and no record is beyond it
pub record IsTop (t : Tables) (folder : Folder) (name : FileName) (top : Entry) : Type 0 where
  pub owner : Device
  pub shares : Shares t owner folder
  pub owned : IsOwn t owner folder name top
  pub above_all : (entry : Entry) → IsAnywhere t folder name entry → IsAtMost entry.version top.version

-- ---- what is asked of each device

-- the own record isn't a local change
abbrev pub IsNoLocalChange : Option Entry → Type 0
IsNoLocalChange None = ⊤
IsNoLocalChange (Some own) = own.invalid ≡ false

-- the own record has the version of the top; or there is none, and the top is a deletion
abbrev pub IsAtTop : Option Entry → Entry → Type 0
IsAtTop None top = top.deleted ≡ true
IsAtTop (Some own) top = AreEqual own.version top.version

-- the device takes changes of others: it shares the folder in a kind other than send only
abbrev pub TakesChanges : Tables → Device → Folder → Type 0
TakesChanges t device folder = (kind : FolderKind) × SharesAs t device folder kind × (kind ≢ SendOnly)

-- Nothing at the device stands in the top's way. Its own record is no local change. Its file is clean, and has the content
-- that the own record tells. It is at the top, or takes changes. And no record counts more of the device's own changes than
-- its own record does (no record counts none): such a record would look like a conflict.
pub record LetsIn (t : Tables) (device : Device) (folder : Folder) (name : FileName) (top : Entry) : Type 0 where
  pub not_local : IsNoLocalChange (t.own device folder name)
  pub clean : IsClean (t.node device folder name) (t.own device folder name)
  pub holds : content_of_node (t.node device folder name) ≡ content_owned (t.own device folder name)
  pub takes : IsAtTop (t.own device folder name) top ⊎ TakesChanges t device folder
  pub counted : (entry : Entry) → IsAnywhere t folder name entry → counter_of entry.version device ≤ counter_of (version_of (t.own device folder name)) device

-- ---- the whole

-- the record prevails: it is the top of the chain of all records of its name, and each device lets it in
pub record Prevails (t : Tables) (folder : Folder) (name : FileName) (top : Entry) : Type 0 where
  pub chain : IsChain t folder name
  pub top_of : IsTop t folder name top
  pub everywhere : (device : Device) → Shares t device folder → LetsIn t device folder name top

-- a cut prevails: of each known name some record does
abbrev pub AllPrevail : Tables → Type 0
AllPrevail t = (folder : Folder) (name : FileName) → IsKnown t folder name → (top : Entry) × Prevails t folder name top
