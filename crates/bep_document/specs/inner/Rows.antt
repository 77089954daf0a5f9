-- What is told of the members of a row.
use Rattle.std.specs.Prelude.{ℕ, List, [], ◌∷◌, Option, None, Some, Result, Err, codes}
use Rattle.serde_json.specs.Data.{Data}
use Rattle.bep_json.specs.declared.told.Misread.{Misread}
use Rattle.bep_json.specs.declared.told.Misread.TheVariants.{Shape}
use Rattle.bep_json.specs.declared.version.DocVersion.{DocVersion}
use Rattle.bep_json.specs.Taking.{slot, due, both, told_as}
use Rattle.bep_document.specs.declared.parts.RowParts.{RowParts}
use Rattle.bep_document.specs.declared.take.rows.RowSlots.{RowSlots}
use Rattle.bep_json.specs.Records.{is_record, read_record}
use Rattle.bep_json.specs.Numbers.{is_whole, read_number, greatest_id}
use Rattle.bep_json.specs.Texts.{is_text, read_folder_name}
use Rattle.bep_record.specs.declared.entry.Entry.{Entry}

-- the names of the members
abbrev pub row_names : List (List ℕ)
row_names = codes "folder" ∷ codes "device" ∷ codes "record" ∷ []

-- what is told of the members, by what stands at each name
abbrev pub row_slots : DocVersion → (List ℕ → Option Data) → RowSlots
row_slots version look = record {
  folder = slot (is_text) (read_folder_name) (look (codes "folder"));
  device = slot (is_whole) (read_number 1 greatest_id) (look (codes "device"));
  entry = slot (is_record version) (read_record version) (look (codes "record"));
}

-- the row with these things
abbrev pub row_of : List ℕ × (ℕ × Entry) → RowParts
row_of t = record {
  folder = t.0;
  device = t.1.0;
  entry = t.1.1;
}

-- what is told of the row
abbrev pub row_told : Option RowSlots → Result RowParts Misread
row_told None = Err Shape
row_told (Some slots) = told_as row_of (both (due slots.folder) (both (due slots.device) (due slots.entry)))
