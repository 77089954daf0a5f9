-- When a row is plain, as most rows are: its records are valid and say the same, and each device that shares the folder has it so
-- (this project's profile).
use Rattle.std.specs.Prelude.{◌≡◌, false, List, Option, IsSome, Contains}
use Rattle.bep_record.specs.Content.{content_of}
use Rattle.bep_record.specs.declared.entry.Entry.{Entry}
use Rattle.bep_record.specs.declared.node.NodeParts.{NodeParts}
use Rattle.bep_model.specs.Settled.{StoreAgrees, content_of_node}
use Rattle.bep_tables.specs.declared.cut.CutParts.{CutParts}
use Rattle.bep_tables.specs.declared.share.Share.{Share}
use Rattle.bep_tables.specs.Cut.{shares_of}
use Rattle.bep_row.specs.declared.row.DeviceCell.{DeviceCell}
use Rattle.bep_row.specs.declared.row.NameRow.{NameRow}
use Rattle.bep_row.specs.Row.{cell_of, node_of, own_of, record_at}

-- the record isn't invalid, and has the first one's content and version; its sequence may be another
pub record IsAlike (first entry : Entry) : Type 0 where
  pub valid : entry.invalid ≡ false
  pub content : content_of entry ≡ content_of first
  pub version : entry.version ≡ first.version

-- each of these is
abbrev pub AreAlike : Entry → List Entry → Type 0
AreAlike first entries = (entry : Entry) → Contains entries entry → IsAlike first entry

-- the store holds what the record says
abbrev pub IsHeld : Entry → Option NodeParts → Type 0
IsHeld entry node = content_of_node node ≡ content_of entry

-- there is an own record, and the store holds what the first record says, and is clean against the own one
pub record IsKept (first : Entry) (node : Option NodeParts) (own : Option Entry) : Type 0 where
  pub there : IsSome own
  pub agrees : StoreAgrees node own (content_of first)

-- the same of what the cell says of a device
abbrev pub IsKeptBy : NameRow → Entry → Option DeviceCell → Type 0
IsKeptBy row first cell = IsKept first (node_of cell) (record_at row.records (own_of cell))

-- each of these devices has it
abbrev pub AreKept : NameRow → Entry → List Share → Type 0
AreKept row first shares = (share : Share) → Contains shares share → IsKeptBy row first (cell_of row.devices share.device)

-- all records of the row are alike, and each device that shares the folder has one of them and what it says
pub record IsPlain (header : CutParts) (row : NameRow) : Type 0 where
  pub first : Entry
  pub alike : AreAlike first row.records
  pub kept : AreKept row first (shares_of row.folder header.folders)
