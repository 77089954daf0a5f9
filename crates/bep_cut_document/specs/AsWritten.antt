-- The tables of a cut are those that its document writes down; src/laws.rt has these as contracts.
use Rattle.std.specs.Prelude.{◌≡◌, ◌⊎◌, ◌↔◌, List, [], Option, map, Some, Contains}
use Rattle.bep_record.specs.declared.entry.Entry.{Entry}
use Rattle.bep_record.specs.declared.node.NodeParts.{NodeParts}
use Rattle.bep_record.specs.declared.folder_kind.FolderKind.{FolderKind}
use Rattle.bep_model.specs.Tables.{Tables, Device, Folder, FileName, SharesAs}
use Rattle.bep_document.specs.declared.parts.ShareParts.{ShareParts}
use Rattle.bep_document.specs.declared.parts.ViewParts.{ViewParts}
use Rattle.bep_document.specs.declared.parts.FolderParts.{FolderParts}
use Rattle.bep_document.specs.declared.parts.LinkParts.{LinkParts}
use Rattle.bep_document.specs.declared.parts.CheckParts.{CheckParts}
use Rattle.bep_document.specs.Faultless.{IsFaultless}
use Rattle.bep_tables.specs.Cut.{tables_of}
use Rattle.bep_cut_document.specs.Written.{flight_written, cut_written}

-- the tables of the cut that the document writes down
abbrev pub tables_written : CheckParts → Tables
tables_written parts = tables_of (cut_written parts.folders parts.links)

-- the document has this device in this folder
abbrev pub IsWrittenIn : CheckParts → FolderParts → ShareParts → Type 0
IsWrittenIn parts folder share = Contains parts.folders folder × Contains folder.devices share

-- a device shares a folder where the document has it there, in that kind
abbrev pub SharingIsAsWritten : Type 0
SharingIsAsWritten =
    (parts : CheckParts) (name : Folder) (device : Device) (kind : FolderKind) → IsFaultless parts →
    SharesAs (tables_written parts) device name kind
    ↔ ((folder : FolderParts) × (share : ShareParts) × IsWrittenIn parts folder share × (folder.folder ≡ name) × (share.device ≡ device) × (share.kind ≡ kind))

-- a device's record of a name in this table is the one that the document lists there
abbrev pub RecordIsAsWritten : (Tables → Device → Folder → FileName → Option Entry) → (ShareParts → List Entry) → Type 0
RecordIsAsWritten table listed =
    (parts : CheckParts) (folder : FolderParts) (share : ShareParts) (name : FileName) (entry : Entry) → IsFaultless parts →
    IsWrittenIn parts folder share →
    (table (tables_written parts) share.device folder.folder name ≡ Some entry) ↔ (Contains (listed share) entry × (entry.name ≡ name))

-- so it is with a device's own record
abbrev pub OwnIsAsWritten : Type 0
OwnIsAsWritten = RecordIsAsWritten (λ t. t.own) (λ share. share.own)

-- and with what it pulls
abbrev pub TargetIsAsWritten : Type 0
TargetIsAsWritten = RecordIsAsWritten (λ t. t.target) (λ share. share.pulls)

-- what a device's store holds at a name is the node that the document lists
abbrev pub NodeIsAsWritten : Type 0
NodeIsAsWritten =
    (parts : CheckParts) (folder : FolderParts) (share : ShareParts) (name : FileName) (node : NodeParts) → IsFaultless parts →
    IsWrittenIn parts folder share →
    ((tables_written parts).node share.device folder.folder name ≡ Some node) ↔ Contains share.store (record { name = name; parts = node })

-- what a device knows of another's record of a name is what the document lists in its view of the other
abbrev pub ViewedIsAsWritten : Type 0
ViewedIsAsWritten =
    (parts : CheckParts) (folder : FolderParts) (share : ShareParts) (other : Device) (name : FileName) (entry : Entry) → IsFaultless parts →
    IsWrittenIn parts folder share →
    ((tables_written parts).viewed share.device other folder.folder name ≡ Some entry)
    ↔ ((view : ViewParts) × Contains share.views view × (view.of ≡ other) × Contains view.records entry × (entry.name ≡ name))

-- what is on its way over a link is what the document lists, in its order
abbrev pub FlyingIsAsWritten : Type 0
FlyingIsAsWritten =
    (parts : CheckParts) (link : LinkParts) → IsFaultless parts → Contains parts.links link →
    ((tables_written parts).flying link.a link.b ≡ map flight_written link.to_b)
    × ((tables_written parts).flying link.b link.a ≡ map flight_written link.to_a)

-- the link joins these two devices
abbrev pub Joins : LinkParts → Device → Device → Type 0
Joins link one other = ((link.a ≡ one) × (link.b ≡ other)) ⊎ ((link.a ≡ other) × (link.b ≡ one))

-- nothing is on its way between devices that no link of the document joins
abbrev pub UnlinkedIsQuiet : Type 0
UnlinkedIsQuiet =
    (parts : CheckParts) (from to : Device) → IsFaultless parts →
    ((link : LinkParts) → Contains parts.links link → ¬ Joins link from to) →
    (tables_written parts).flying from to ≡ []
