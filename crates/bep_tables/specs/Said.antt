-- What the entries of a cut are, as its tables have them; the function of src/table/laws.rt has these as its contract.
use Rattle.std.specs.Prelude.{◌≡◌, ◌↔◌, false, Some, Contains}
use Rattle.bep_model.specs.Tables.{Tables, Device, Folder, FileName, Shares}
use Rattle.bep_model.specs.Foreign.{IsViewed, IsFlying, IsTarget}
use Rattle.bep_tables.specs.declared.cut.CutParts.{CutParts}
use Rattle.bep_tables.specs.declared.table.entry.Source.TheVariants.{Own, View, Flight, Pull}
use Rattle.bep_tables.specs.Cut.{IsCut, tables_of}
use Rattle.bep_tables.specs.Listed.{Holding, Record, Node, Listed, cut_listed}

-- the device holds this of the name: it is its own record, its node, or a record that isn't invalid: one in its views, on
-- its way to it, or its pull
abbrev pub Holds : Tables → Device → Folder → FileName → Holding → Type 0
Holds t device folder name (Record Own entry) = t.own device folder name ≡ Some entry
Holds t device folder name (Record View entry) = IsViewed t device folder name entry × (entry.invalid ≡ false)
Holds t device folder name (Record Flight entry) = IsFlying t device folder name entry × (entry.invalid ≡ false)
Holds t device folder name (Record Pull entry) = IsTarget t device folder name entry × (entry.invalid ≡ false)
Holds t device folder name (Node node) = t.node device folder name ≡ Some node

-- the entries of a cut are what its devices hold
abbrev pub EntriesAreHeld : Type 0
EntriesAreHeld =
    (cut : CutParts) (one : Listed) → IsCut cut →
    Contains (cut_listed cut) one ↔ Holds (tables_of cut) one.device one.folder one.name one.holding

-- and each is of a device that shares its folder
abbrev pub HoldersShare : Type 0
HoldersShare = (cut : CutParts) (one : Listed) → IsCut cut → Contains (cut_listed cut) one → Shares (tables_of cut) one.device one.folder
