-- What is told of the members of a device that shares a folder, of a folder, and of the ends of a link.
use Rattle.std.specs.Prelude.{ℕ, ◌&&◌, nat_le, List, [], ◌∷◌, Option, None, Some, Result, Ok, Err, codes, if◌then◌else◌}
use Rattle.serde_json.specs.Data.{Data}
use Rattle.bep_record.specs.declared.folder_kind.FolderKind.{FolderKind}
use Rattle.bep_json.specs.declared.told.Misread.{Misread}
use Rattle.bep_json.specs.declared.told.Misread.TheVariants.{Shape, Range}
use Rattle.bep_json.specs.Lists.{is_list, read_list}
use Rattle.bep_json.specs.Numbers.{is_whole, read_number, greatest_id}
use Rattle.bep_json.specs.Texts.{is_text, read_folder_kind, read_folder_name}
use Rattle.bep_json.specs.Taking.{slot, due, both, told_as}
use Rattle.bep_document.specs.declared.parts.ShareParts.{ShareParts}
use Rattle.bep_document.specs.declared.parts.FolderParts.{FolderParts}
use Rattle.bep_document.specs.declared.parts.LinkParts.{LinkParts}
use Rattle.bep_scenario.specs.declared.fresh.shares.ShareSlots.{ShareSlots}
use Rattle.bep_scenario.specs.declared.fresh.folders.FolderSlots.{FolderSlots}
use Rattle.bep_scenario.specs.Fresh.{is_fresh_share, read_fresh_share, fresh_link}

-- ---- devices that share a folder

-- the names of the members
abbrev pub share_names : List (List ℕ)
share_names = codes "device" ∷ codes "kind" ∷ codes "index_id" ∷ []

-- what is told of the members, by what stands at each name
abbrev pub share_slots : (List ℕ → Option Data) → ShareSlots
share_slots look = record {
  device = slot is_whole (read_number 1 greatest_id) (look (codes "device"));
  kind = slot is_text read_folder_kind (look (codes "kind"));
  index_id = slot is_whole (read_number 1 greatest_id) (look (codes "index_id"));
}

-- the device with these things, and with nothing in its index and its store
abbrev pub share_of : ℕ × (FolderKind × ℕ) → ShareParts
share_of t = record {
  device = t.0;
  kind = t.1.0;
  index_id = t.1.1;
  max = 0;
  own = [];
  store = [];
  views = [];
  pulls = [];
}

-- what is told of the device
abbrev pub share_told : Option ShareSlots → Result ShareParts Misread
share_told None = Err Shape
share_told (Some slots) = told_as share_of (both (due slots.device) (both (due slots.kind) (due slots.index_id)))

-- ---- folders

-- the names of the members
abbrev pub folder_names : List (List ℕ)
folder_names = codes "folder" ∷ codes "devices" ∷ []

-- what is told of the members, by what stands at each name
abbrev pub folder_slots : (List ℕ → Option Data) → FolderSlots
folder_slots look = record {
  folder = slot is_text read_folder_name (look (codes "folder"));
  devices = slot (is_list is_fresh_share) (read_list read_fresh_share) (look (codes "devices"));
}

-- the folder with these things
abbrev pub folder_of : List ℕ × List ShareParts → FolderParts
folder_of t = record { folder = t.0; devices = t.1 }

-- what is told of the folder
abbrev pub folder_told : Option FolderSlots → Result FolderParts Misread
folder_told None = Err Shape
folder_told (Some slots) = told_as folder_of (both (due slots.folder) (due slots.devices))

-- ---- links

-- what is told of the link between two numbers, if both are those of devices
abbrev pub link_told : Result (ℕ × ℕ) Misread → Result LinkParts Misread
link_told (Ok ends) = if nat_le 1 ends.0 && nat_le 1 ends.1 then Ok (fresh_link ends) else Err Range
link_told (Err misread) = Err misread
