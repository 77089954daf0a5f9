-- The cut for which a header and rows stand (this project's profile).
use Rattle.std.specs.Prelude.{◌≢◌, List, [], ◌∷◌, ⊤, Option, Some, None, map, Contains}
use Rattle.std.specs.FinMap.{empty, insert}
use Rattle.bep_map.specs.NameMap.{ByName}
use Rattle.bep_model.specs.Tables.{FileName}
use Rattle.bep_parts.specs.Document.{IsCutOf}
use Rattle.bep_row.specs.Fits.{AreQuiet}
use Rattle.bep_row.specs.Row.{cell_in, known_by, node_of, own_of, pull_of, record_at}
use Rattle.bep_row.specs.declared.row.DeviceCell.{DeviceCell}
use Rattle.bep_row.specs.declared.row.NameRow.{NameRow}
use Rattle.bep_tables.specs.Cut.{tables_of}
use Rattle.bep_tables.specs.declared.cut.CutParts.{CutParts}
use Rattle.bep_tables.specs.declared.share.PeerView.{PeerView}
use Rattle.bep_tables.specs.declared.share.Share.{Share}
use Rattle.bep_tables.specs.declared.share.SharedFolder.{SharedFolder}
use Rattle.bep_rows.specs.Names.{Key, NamesAreAmong, among}
use Rattle.bep_rows.specs.Row.{IsRowOf}

-- the name of a row
abbrev pub key_of_row : NameRow → Key
key_of_row row = (row.folder, row.name)

-- no two rows have the same name
abbrev pub NamesDiffer : List NameRow → Type 0
NamesDiffer [] = ⊤
NamesDiffer (row ∷ rows) = ((other : NameRow) → Contains rows other → key_of_row row ≢ key_of_row other) × NamesDiffer rows

-- a map that has this at the name, if there is anything, and else what was there
abbrev pub put : {V : Type 0} → FileName → Option V → ByName V → ByName V
put name None held = held
put name (Some value) held = insert held name value

-- a map with what is found in each row, at the row's name
abbrev pub said : {V : Type 0} → (NameRow → Option V) → List NameRow → ByName V
said find [] = empty
said find (row ∷ rows) = put row.name (find row) (said find rows)

-- what a device knows of another's index, by the cells of all rows
abbrev pub view_by : (NameRow → Option DeviceCell) → List NameRow → PeerView → PeerView
view_by cell rows view = record {
  of = view.of;
  index_id = view.index_id;
  max_sequence = view.max_sequence;
  records = said (λ row. record_at row.records (known_by (cell row) view.of)) rows;
}

-- what a device has of a folder, by the cells of all rows
abbrev pub share_by : (NameRow → Option DeviceCell) → List NameRow → Share → Share
share_by cell rows share = record {
  device = share.device;
  kind = share.kind;
  index_id = share.index_id;
  max_sequence = share.max_sequence;
  own = said (λ row. record_at row.records (own_of (cell row))) rows;
  store = said (λ row. node_of (cell row)) rows;
  views = map (view_by cell rows) share.views;
  pulls = said (λ row. record_at row.records (pull_of (cell row))) rows;
}

abbrev pub folder_by : List NameRow → SharedFolder → SharedFolder
folder_by rows shared = record {
  folder = shared.folder;
  shares = map (λ share. share_by (λ row. cell_in row shared share.device) rows share) shared.shares;
}

-- the cut: all that the rows say of their names, and all else as the header has it
abbrev pub cut_by : CutParts → List NameRow → CutParts
cut_by header rows = record { folders = map (folder_by rows) header.folders; links = header.links }

-- each row is one of the cut for which the rows stand
abbrev pub RowsAreOfTheirCut : Type 0
RowsAreOfTheirCut = (header : CutParts) (rows : List NameRow) (row : NameRow) → AreQuiet header.links → NamesDiffer rows → Contains rows row → IsRowOf (cut_by header rows) header row

-- and this cut has no other names: it is the part of itself that has these
abbrev pub NoOtherNames : Type 0
NoOtherNames = (header : CutParts) (rows : List NameRow) → AreQuiet header.links → IsCutOf (among (map key_of_row rows)) (cut_by header rows) (cut_by header rows)

-- so each name that it knows is one of theirs
abbrev pub NamesAreOfRows : Type 0
NamesAreOfRows = (header : CutParts) (rows : List NameRow) → AreQuiet header.links → NamesAreAmong (tables_of (cut_by header rows)) (map key_of_row rows)
