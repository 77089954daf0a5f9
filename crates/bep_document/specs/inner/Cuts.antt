-- What is told of the members of a cut.
use Rattle.std.specs.Prelude.{ℕ, List, [], ◌∷◌, Option, None, Some, Result, Ok, Err, if◌then◌else◌, codes}
use Rattle.serde_json.specs.Data.{Data}
use Rattle.bep_json.specs.declared.told.Misread.{Misread}
use Rattle.bep_json.specs.declared.told.Misread.TheVariants.{Shape, Range}
use Rattle.bep_json.specs.declared.version.DocVersion.{DocVersion}
use Rattle.bep_json.specs.Lists.{is_list, read_list}
use Rattle.bep_json.specs.Taking.{slot, due, due_or, both}
use Rattle.bep_record.specs.declared.limits.TheConstants.{MAX_FOLDERS}
use Rattle.bep_document.specs.declared.parts.FolderParts.{FolderParts}
use Rattle.bep_document.specs.declared.parts.LinkParts.{LinkParts}
use Rattle.bep_document.specs.declared.take.cut.CutSlots.{CutSlots}
use Rattle.bep_document.specs.read.Devices.{has_few_devices}
use Rattle.bep_document.specs.read.Few.{read_few}
use Rattle.bep_document.specs.read.Folders.{is_folder, read_folder}
use Rattle.bep_document.specs.read.Links.{is_link, read_link}

-- the names of the members
abbrev pub cut_names : List (List ℕ)
cut_names = codes "folders" ∷ codes "links" ∷ []

-- what is told of the members, by what stands at each name
abbrev pub cut_slots : DocVersion → (List ℕ → Option Data) → CutSlots
cut_slots version look = record {
  folders = slot (is_list (is_folder version)) (read_few MAX_FOLDERS (read_folder version)) (look (codes "folders"));
  links = slot (is_list (is_link version)) (read_list (read_link version)) (look (codes "links"));
}

-- the cut, where not too many different devices share its folders
abbrev pub cut_with : List FolderParts × List LinkParts → Result (List FolderParts × List LinkParts) Misread
cut_with lists = if has_few_devices lists.0 then Ok lists else Err Range

-- what is told of the cut that is made of these lists
abbrev pub cut_of_told : Result (List FolderParts × List LinkParts) Misread → Result (List FolderParts × List LinkParts) Misread
cut_of_told (Ok lists) = cut_with lists
cut_of_told (Err misread) = Err misread

-- what is told of the cut
abbrev pub cut_told : Option CutSlots → Result (List FolderParts × List LinkParts) Misread
cut_told None = Err Shape
cut_told (Some slots) = cut_of_told (both (due slots.folders) (due_or [] slots.links))
