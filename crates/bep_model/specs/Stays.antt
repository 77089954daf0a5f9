-- What stays of a settled cut in a later one (this project's profile).
use Rattle.std.specs.Prelude.{◌≡◌, ◌⊎◌, ⊤, List, [], ◌∷◌, Option, Some, None, IsSome, Contains}
use Rattle.bep_record.specs.declared.entry.Entry.{Entry}
use Rattle.bep_record.specs.Content.{Content, Deleted, content_of}
use Rattle.bep_model.specs.declared.row.Row.{Row}
use Rattle.bep_model.specs.Tables.{Tables, Device, Folder, FileName, Shares}
use Rattle.bep_model.specs.Settled.{content_of_node, HasRow}
use Rattle.bep_model.specs.Calm.{WasReset, Kept}

-- the own record, where there is one, has this content; there is none only where the content is Deleted, or the device was
-- reset
abbrev pub OwnHas : Type 0 → Option Entry → Content → Type 0
OwnHas reset None content = (content ≡ Deleted) ⊎ reset
OwnHas reset (Some own) content = content_of own ≡ content

-- Each store holds byte for byte what it held; each row's name has its certified content in every sharing device's store
-- and own record, where only one of these devices, which were reset, may lack a record that the content asks for; a name
-- without a row has neither node nor record.
pub record Stays (before : Tables) (rows : List Row) (reset : List Device) (after : Tables) : Type 0 where
  pub kept : Kept before after
  pub store : (row : Row) (device : Device) → Contains rows row → Shares before device row.folder →
      content_of_node (after.node device row.folder row.entry.name) ≡ content_of row.entry
  pub own : (row : Row) (device : Device) → Contains rows row → Shares before device row.folder →
      OwnHas (WasReset reset device) (after.own device row.folder row.entry.name) (content_of row.entry)
  pub unlisted : (device : Device) (folder : Folder) (name : FileName) → Shares before device folder → (¬ HasRow rows folder name) →
      (after.node device folder name ≡ None) × (after.own device folder name ≡ None)

-- a device that has a record of a name has one afterwards
abbrev pub KeepsRecords : Tables → Tables → Type 0
KeepsRecords before after = (device : Device) (folder : Folder) (name : FileName) →
    IsSome (before.own device folder name) → IsSome (after.own device folder name)

-- the same devices share each folder
abbrev pub SameShares : Tables → Tables → Type 0
SameShares before after = (folder : Folder) → before.sharing folder ≡ after.sharing folder

-- each own record of a sharing device stands under its own name
abbrev pub RecordsAreNamed : Tables → Type 0
RecordsAreNamed t = (device : Device) (folder : Folder) (name : FileName) (entry : Entry) →
    Shares t device folder → t.own device folder name ≡ Some entry → entry.name ≡ name

-- rows of the same names and the same contents
abbrev pub SameContents : List Row → List Row → Type 0
SameContents [] [] = ⊤
SameContents (row ∷ more) (other ∷ others) =
    (row.folder ≡ other.folder) × (row.entry.name ≡ other.entry.name) × (content_of row.entry ≡ content_of other.entry) × SameContents more others
SameContents _ _ = ⊥
