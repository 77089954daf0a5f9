-- The reading of a row's text: the row that it says beside its header, or the one fault for which it is refused (this project's
-- profile).
use Rattle.std.specs.Prelude.{ℕ, ◌-◌, List, map, Option, Some, None, slice_get}
use Rattle.bep_record.specs.declared.node.NodeParts.{NodeParts}
use Rattle.bep_json.specs.declared.version.DocVersion.{DocVersion}
use Rattle.bep_json.specs.Taking.{judged}
use Rattle.bep_tree.specs.Read.{tree_of}
use Rattle.bep_document.specs.Reading.{Reading, ◌>>=◌, given, of_told, unless}
use Rattle.bep_document.specs.declared.fault.Fault.TheVariants.{NotJson}
use Rattle.bep_row.specs.declared.row.DeviceCell.{DeviceCell}
use Rattle.bep_row.specs.declared.row.NameRow.{NameRow}
use Rattle.bep_row.specs.declared.row.ViewCell.{ViewCell}
use Rattle.bep_tables.specs.declared.cut.CutParts.{CutParts}
use Rattle.bep_row_document.specs.Cell.{place_of}
use Rattle.bep_row_document.specs.Faults.{Last, fault_in}
use Rattle.bep_row_document.specs.Text.{CellText, RowText, ViewText, is_row, read_row}

-- the node at a place
abbrev pub node_at : List NodeParts → Option ℕ → Option NodeParts
node_at nodes None = None
node_at nodes (Some place) = slice_get nodes place

-- a view, by its place from 0
abbrev pub view_with : ViewText → ViewCell
view_with view = record { of = view.0; «record» = view.1.0 - 1 }

-- what the device has of the name, of these nodes
abbrev pub device_with : List NodeParts → CellText → DeviceCell
device_with nodes cell = record {
  device = cell.0;
  own = place_of cell.1.0;
  node = node_at nodes (place_of cell.1.1.0);
  views = map view_with cell.1.1.1.1.0;
  pull = place_of cell.1.1.1.0;
}

-- the row that a text says
unfoldable pub row_of : RowText → NameRow
row_of row = record {
  folder = row.0;
  name = row.1.0;
  records = row.1.1.0;
  devices = map (device_with (map (λ node. node.parts) row.1.1.1.0)) row.1.1.1.1.0;
}

-- what bytes say as a row
unfoldable pub reading_of_text : DocVersion → List ℕ → Reading RowText
reading_of_text version bytes = do
  tree ← given NotJson (tree_of bytes)
  of_told (judged (is_row version tree) (read_row version tree))

-- the row that a text says, if it has no fault beside the header
unfoldable pub row_judged : CutParts → Last → RowText → Reading NameRow
row_judged header last text = unless (fault_in header last text) (row_of text)

-- what bytes say as a row beside the header, behind the row of this name
unfoldable pub reading_of_row : DocVersion → CutParts → Last → List ℕ → Reading NameRow
reading_of_row version header last bytes = do
  text ← reading_of_text version bytes
  row_judged header last text
