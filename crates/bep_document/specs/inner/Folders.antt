-- What is told of the members of a folder.
use Rattle.std.specs.Prelude.{ℕ, List, [], ◌∷◌, Option, None, Some, Result, Err, codes}
use Rattle.serde_json.specs.Data.{Data}
use Rattle.bep_json.specs.declared.told.Misread.{Misread}
use Rattle.bep_json.specs.declared.told.Misread.TheVariants.{Shape}
use Rattle.bep_json.specs.declared.version.DocVersion.{DocVersion}
use Rattle.bep_json.specs.Taking.{slot, due, both, told_as}
use Rattle.bep_document.specs.declared.parts.FolderParts.{FolderParts}
use Rattle.bep_document.specs.declared.take.folders.FolderSlots.{FolderSlots}
use Rattle.bep_json.specs.Lists.{is_list, read_list}
use Rattle.bep_json.specs.Texts.{is_text, read_folder_name}
use Rattle.bep_document.specs.read.Shares.{is_share, read_share}
use Rattle.bep_document.specs.declared.parts.ShareParts.{ShareParts}

-- the names of the members
abbrev pub folder_names : List (List ℕ)
folder_names = codes "folder" ∷ codes "devices" ∷ []

-- what is told of the members, by what stands at each name
abbrev pub folder_slots : DocVersion → (List ℕ → Option Data) → FolderSlots
folder_slots version look = record {
  folder = slot (is_text) (read_folder_name) (look (codes "folder"));
  devices = slot (is_list (is_share version)) (read_list (read_share version)) (look (codes "devices"));
}

-- the folder with these things
abbrev pub folder_of : List ℕ × List ShareParts → FolderParts
folder_of t = record {
  folder = t.0;
  devices = t.1;
}

-- what is told of the folder
abbrev pub folder_told : Option FolderSlots → Result FolderParts Misread
folder_told None = Err Shape
folder_told (Some slots) = told_as folder_of (both (due slots.folder) (due slots.devices))
