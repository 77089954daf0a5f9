-- What is told of the members of a check document.
use Rattle.std.specs.Prelude.{ℕ, Bool, List, [], ◌∷◌, Option, None, Some, Result, Err, codes}
use Rattle.serde_json.specs.Data.{Data}
use Rattle.bep_json.specs.declared.told.Misread.{Misread}
use Rattle.bep_json.specs.declared.told.Misread.TheVariants.{Shape}
use Rattle.bep_json.specs.declared.version.DocVersion.{DocVersion}
use Rattle.bep_json.specs.Lists.{is_list, read_list}
use Rattle.bep_json.specs.Numbers.{is_whole, read_number}
use Rattle.bep_json.specs.Taking.{slot, due, noted, both, told_as}
use Rattle.bep_document.specs.declared.parts.CheckParts.{CheckParts}
use Rattle.bep_document.specs.declared.parts.FolderParts.{FolderParts}
use Rattle.bep_document.specs.declared.parts.LinkParts.{LinkParts}
use Rattle.bep_document.specs.declared.parts.RowParts.{RowParts}
use Rattle.bep_document.specs.declared.take.documents.CheckSlots.{CheckSlots}
use Rattle.bep_document.specs.declared.take.documents.CutSlot.{CutSlot}
use Rattle.bep_document.specs.read.Checks.{is_cut, read_cut}
use Rattle.bep_document.specs.read.Folders.{is_row, read_row}

-- the names of the members
abbrev pub document_names : List (List ℕ)
document_names = codes "version" ∷ codes "cut" ∷ codes "certificate" ∷ []

-- what is told of the members, by what stands at each name
abbrev pub check_slots : DocVersion → (List ℕ → Option Data) → CheckSlots
check_slots version look = record {
  version = slot is_whole (read_number 1 2) (look (codes "version"));
  cut = slot (is_cut version) (read_cut version) (look (codes "cut"));
  certificate = slot (is_list (is_row version)) (read_list (read_row version)) (look (codes "certificate"));
}

-- the same of the cut alone
abbrev pub cut_slot : DocVersion → (List ℕ → Option Data) → CutSlot
cut_slot version look = record { cut = slot (is_cut version) (read_cut version) (look (codes "cut")) }

-- the document with these things
abbrev pub check_of : DocVersion → Bool × ((List FolderParts × List LinkParts) × List RowParts) → CheckParts
check_of version t = record { version = version; folders = t.1.0.0; links = t.1.0.1; certificate = t.1.1 }

-- what is told of the document
abbrev pub check_told : DocVersion → Option CheckSlots → Result CheckParts Misread
check_told version None = Err Shape
check_told version (Some slots) = told_as (check_of version) (both (noted slots.version) (both (due slots.cut) (due slots.certificate)))

-- what is told of the document's cut
abbrev pub cut_slot_told : Option CutSlot → Result (List FolderParts × List LinkParts) Misread
cut_slot_told None = Err Shape
cut_slot_told (Some slots) = due slots.cut
