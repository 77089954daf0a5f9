-- What a row says of a name, and the cut that says it (this project's profile).
use Rattle.std.specs.Prelude.{ℕ, List, Option, Some, None, map, option_map, option_and_then, slice_get, if◌then◌else◌}
use Rattle.std.specs.Ordering.{nat_cmp, is_eq}
use Rattle.std.specs.List.{find}
use Rattle.std.specs.FinMap.{empty, insert}
use Rattle.bep_record.specs.declared.entry.Entry.{Entry}
use Rattle.bep_record.specs.declared.node.NodeParts.{NodeParts}
use Rattle.bep_map.specs.NameMap.{ByName}
use Rattle.bep_model.specs.Tables.{Device, FileName}
use Rattle.bep_tables.specs.declared.cut.CutParts.{CutParts}
use Rattle.bep_tables.specs.declared.share.PeerView.{PeerView}
use Rattle.bep_tables.specs.declared.share.Share.{Share}
use Rattle.bep_tables.specs.declared.share.SharedFolder.{SharedFolder}
use Rattle.bep_tables.specs.Cut.{is_folder}
use Rattle.bep_row.specs.declared.row.DeviceCell.{DeviceCell}
use Rattle.bep_row.specs.declared.row.NameRow.{NameRow}
use Rattle.bep_row.specs.declared.row.ViewCell.{ViewCell}

-- what a device has of the name; nothing where the row doesn't say
abbrev pub cell_of : List DeviceCell → Device → Option DeviceCell
cell_of cells device = find (λ cell. is_eq (nat_cmp cell.device device)) cells

-- the place of what is known of another device's record
abbrev pub number_in : List ViewCell → Device → Option ℕ
number_in views of = option_map (λ view. view.record) (find (λ view. is_eq (nat_cmp view.of of)) views)

-- the record at a place
abbrev pub record_at : List Entry → Option ℕ → Option Entry
record_at records None = None
record_at records (Some number) = slice_get records number

-- the places that a device's cell says
abbrev pub own_of : Option DeviceCell → Option ℕ
own_of = option_and_then (λ cell. cell.own)

abbrev pub pull_of : Option DeviceCell → Option ℕ
pull_of = option_and_then (λ cell. cell.pull)

abbrev pub known_by : Option DeviceCell → Device → Option ℕ
known_by cell of = option_and_then (λ one. number_in one.views of) cell

-- what the cell says that its store holds
abbrev pub node_of : Option DeviceCell → Option NodeParts
node_of = option_and_then (λ cell. cell.node)

-- a map with this at the name and nothing else
abbrev pub alone : {V : Type 0} → FileName → Option V → ByName V
alone name None = empty
alone name (Some value) = insert empty name value

-- what a device knows of another's index, with what the cell says of the name
abbrev pub view_with : NameRow → Option DeviceCell → PeerView → PeerView
view_with row cell view = record {
  of = view.of;
  index_id = view.index_id;
  max_sequence = view.max_sequence;
  records = alone row.name (record_at row.records (known_by cell view.of));
}

-- what a device has of a folder, with what the cell says of the name
abbrev pub share_with : NameRow → Option DeviceCell → Share → Share
share_with row cell share = record {
  device = share.device;
  kind = share.kind;
  index_id = share.index_id;
  max_sequence = share.max_sequence;
  own = alone row.name (record_at row.records (own_of cell));
  store = alone row.name (node_of cell);
  views = map (view_with row cell) share.views;
  pulls = alone row.name (record_at row.records (pull_of cell));
}

-- what the row says of a device in a folder: nothing, unless it is the row's folder
abbrev pub cell_in : NameRow → SharedFolder → Device → Option DeviceCell
cell_in row shared device = if is_folder row.folder shared then cell_of row.devices device else None

-- a folder with what the row says of its name
abbrev pub folder_with : NameRow → SharedFolder → SharedFolder
folder_with row shared = record {
  folder = shared.folder;
  shares = map (λ share. share_with row (cell_in row shared share.device) share) shared.shares;
}

-- The cut that has the row's name alone: all else is the header's. What the header itself has of names isn't looked at.
unfoldable pub cut_with : CutParts → NameRow → CutParts
cut_with header row = record { folders = map (folder_with row) header.folders; links = header.links }
