-- Rows as JSON trees: a list of five items (this project's profile).
use Rattle.std.specs.Prelude.{ℕ, Bool, List, Option, ⊤}
use Rattle.serde_json.specs.Data.{Data}
use Rattle.bep_record.specs.declared.entry.Entry.{Entry}
use Rattle.bep_json.specs.declared.nodes.NamedParts.{NamedParts}
use Rattle.bep_json.specs.declared.version.DocVersion.{DocVersion}
use Rattle.bep_json.specs.Lists.{is_list, read_list}
use Rattle.bep_json.specs.Nodes.{is_node, read_node}
use Rattle.bep_json.specs.Numbers.{is_whole, read_number, greatest_id}
use Rattle.bep_json.specs.Records.{is_record, read_record}
use Rattle.bep_json.specs.Texts.{is_text, read_folder_name, read_name}
use Rattle.bep_json.specs.Tuples.{are_first, are_none, read_first, read_none}
use Rattle.bep_row_document.specs.Listed.{is_listed, read_listed}

-- another device, and the place of its record that is known
abbrev pub ViewText : Type 0
ViewText = ℕ × (ℕ × ⊤)

-- a device, the places of its own record, of its node and of the record that it pulls, and its views
abbrev pub CellText : Type 0
CellText = ℕ × (ℕ × (ℕ × (ℕ × (List ViewText × ⊤))))

-- a folder, a name, records, nodes, and what the row says of devices
abbrev pub RowText : Type 0
RowText = List ℕ × (List ℕ × (List Entry × (List NamedParts × (List CellText × ⊤))))

-- the greatest place
abbrev pub most_things : ℕ
most_things = 4096

-- a view of a device: two numbers
abbrev pub is_view : Data → Bool
is_view = is_listed (are_first is_whole (are_first is_whole are_none))

abbrev pub read_view : Data → Option ViewText
read_view = read_listed (read_first (read_number 1 greatest_id) (read_first (read_number 1 most_things) read_none))

-- what a row says of a device: four numbers and a list
abbrev pub is_cell : Data → Bool
is_cell = is_listed (are_first is_whole (are_first is_whole (are_first is_whole (are_first is_whole (are_first (is_list is_view) are_none)))))

abbrev pub read_cell : Data → Option CellText
read_cell =
    read_listed
    (read_first (read_number 1 greatest_id) (read_first (read_number 0 most_things) (read_first (read_number 0 most_things) (read_first (read_number 0 most_things)
    (read_first (read_list read_view) read_none)))))

-- a row: two texts and three lists
abbrev pub is_row : DocVersion → Data → Bool
is_row version =
    is_listed (are_first is_text (are_first is_text (are_first (is_list (is_record version)) (are_first (is_list is_node) (are_first (is_list is_cell) are_none)))))

abbrev pub read_row : DocVersion → Data → Option RowText
read_row version =
    read_listed
    (read_first read_folder_name (read_first read_name (read_first (read_list (read_record version)) (read_first (read_list (read_node version))
    (read_first (read_list read_cell) read_none)))))
