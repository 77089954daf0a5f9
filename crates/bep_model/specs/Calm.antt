-- What holds of every cluster with a settled cut, and goes on holding. It names no certificate and no winners, since
-- versions go on changing while contents stay. A device that was reset lacks records until it scans (this project's
-- profile).
use Rattle.std.specs.Prelude.{◌≡◌, ◌⊎◌, false, List, [], ◌∷◌, ⊤, Option, Some, None, Contains, unwrap_or, if◌then◌else◌}
use Rattle.std.specs.Ordering.{is_eq}
use Rattle.bep_record.specs.declared.entry.Entry.{Entry}
use Rattle.bep_record.specs.declared.node.NodeParts.{NodeParts}
use Rattle.bep_record.specs.declared.folder_kind.FolderKind.TheVariants.{ReceiveOnly}
use Rattle.bep_record.specs.Content.{Content, Deleted, content_of}
use Rattle.bep_record.specs.Node.{IsClean}
use Rattle.bep_record.specs.Vector.{IsBelow}
use Rattle.bep_model.specs.declared.row.Row.{Row}
use Rattle.bep_model.specs.Tables.{Tables, Device, Folder, FileName, SharesAs, Shares}
use Rattle.bep_model.specs.Foreign.{IsForeign}
use Rattle.bep_model.specs.Settled.{content_of_node, key_of, key_cmp}

-- what each name is to hold; a name without an entry holds nothing
abbrev pub Contents : Type 0
Contents = Folder → FileName → Option Content

abbrev pub content_due : Option Content → Content
content_due entry = unwrap_or entry Deleted

-- the contents that a certificate names
abbrev pub contents_of : List Row → Contents
contents_of [] folder name = None
contents_of (row ∷ more) folder name =
    if is_eq (key_cmp (key_of row) (folder, name)) then Some (content_of row.entry) else contents_of more folder name

-- The parts of calm at a name of this content. At a device that wasn't reset, settled asks the same, in its own words.

-- The own record has the content and isn't local-only; or there is none, and the content is Deleted. A device that was
-- reset may have none of any content, until a scan finds what it holds; and a local-only one after it, if it only receives.
abbrev pub OwnIsCalm : Type 0 → Type 0 → Option Entry → Content → Type 0
OwnIsCalm reset receives None content = (content ≡ Deleted) ⊎ reset
OwnIsCalm reset receives (Some own) content = ((own.invalid ≡ false) ⊎ (reset × receives)) × (content_of own ≡ content)

-- the device is one of those that were reset
abbrev pub WasReset : List Device → Device → Type 0
WasReset reset device = Contains reset device

abbrev pub OnlyReceives : Tables → Device → Folder → Type 0
OnlyReceives t device folder = SharesAs t device folder ReceiveOnly

-- what the store holds has the content
abbrev pub StoreIsCalm : Option NodeParts → Content → Type 0
StoreIsCalm node content = content_of_node node ≡ content

-- the node is clean against the own record, where there is one, so that a scan leaves it alone
abbrev pub NodeIsCalm : Option NodeParts → Option Entry → Type 0
NodeIsCalm held None = ⊤
NodeIsCalm held (Some own) = IsClean held (Some own)

-- a foreign record has the content; or the own record isn't local-only, and its version is strictly above
abbrev pub IsCalmBeside : Option Entry → Content → Entry → Type 0
IsCalmBeside None content entry = content_of entry ≡ content
IsCalmBeside (Some own) content entry =
    (content_of entry ≡ content) ⊎ ((own.invalid ≡ false) × IsBelow entry.version own.version)

-- so does every foreign record: where there is no own record, or a local-only one, each has the content
abbrev pub ForeignIsCalm : Tables → Device → Folder → FileName → Content → Type 0
ForeignIsCalm t device folder name content =
    (entry : Entry) → IsForeign t device folder name entry → IsCalmBeside (t.own device folder name) content entry

-- a name that isn't listed: the device has no own and no foreign record of it
pub record HasNoRecord (t : Tables) (device : Device) (folder : Folder) (name : FileName) : Type 0 where
  pub own : t.own device folder name ≡ None
  pub foreign : (entry : Entry) → ¬ IsForeign t device folder name entry

-- a device is calm at a name, where these devices were reset
pub record IsCalmAt (t : Tables) (contents : Contents) (reset : List Device) (device : Device) (folder : Folder) (name : FileName) : Type 0 where
  pub own : OwnIsCalm (WasReset reset device) (OnlyReceives t device folder) (t.own device folder name) (content_due (contents folder name))
  pub store : StoreIsCalm (t.node device folder name) (content_due (contents folder name))
  pub node : NodeIsCalm (t.node device folder name) (t.own device folder name)
  pub foreign : ForeignIsCalm t device folder name (content_due (contents folder name))
  pub unlisted : contents folder name ≡ None → HasNoRecord t device folder name

-- each sharing device is calm at each name
abbrev pub IsCalm : Tables → Contents → List Device → Type 0
IsCalm t contents reset =
    (device : Device) (folder : Folder) (name : FileName) → Shares t device folder → IsCalmAt t contents reset device folder name

-- the same kind, bytes and target, or nothing on both sides; times may differ
abbrev pub SameFile : Option NodeParts → Option NodeParts → Type 0
SameFile None None = ⊤
SameFile (Some node) (Some other) = (node.kind ≡ other.kind) × (node.bytes ≡ other.bytes) × (node.target ≡ other.target)
SameFile None (Some other) = ⊥
SameFile (Some node) None = ⊥

-- each store holds byte for byte what it held
abbrev pub Kept : Tables → Tables → Type 0
Kept before after = (device : Device) (folder : Folder) (name : FileName) → SameFile (before.node device folder name) (after.node device folder name)
