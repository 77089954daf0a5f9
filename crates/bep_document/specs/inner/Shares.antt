-- What is told of the members of a device that shares a folder.
use Rattle.std.specs.Prelude.{ℕ, List, [], ◌∷◌, Option, None, Some, Result, Err, codes}
use Rattle.serde_json.specs.Data.{Data}
use Rattle.bep_json.specs.declared.told.Misread.{Misread}
use Rattle.bep_json.specs.declared.told.Misread.TheVariants.{Shape}
use Rattle.bep_json.specs.declared.version.DocVersion.{DocVersion}
use Rattle.bep_json.specs.Taking.{slot, due, due_or, both, told_as}
use Rattle.bep_document.specs.declared.parts.ShareParts.{ShareParts}
use Rattle.bep_document.specs.declared.take.shares.ShareSlots.{ShareSlots}
use Rattle.bep_json.specs.Records.{is_record, read_record}
use Rattle.bep_json.specs.Lists.{is_list, read_list}
use Rattle.bep_document.specs.read.Few.{read_few}
use Rattle.bep_json.specs.Numbers.{is_whole, read_number, greatest_id}
use Rattle.bep_json.specs.Texts.{is_text, read_folder_kind}
use Rattle.bep_json.specs.Nodes.{is_node, read_node}
use Rattle.bep_index.specs.declared.limits.TheConstants.{MAX_NAMES, MAX_SEQUENCE}
use Rattle.bep_record.specs.declared.limits.TheConstants.{MAX_PULLS}
use Rattle.bep_document.specs.read.Views.{is_view, read_view}
use Rattle.bep_record.specs.declared.entry.Entry.{Entry}
use Rattle.bep_record.specs.declared.folder_kind.FolderKind.{FolderKind}
use Rattle.bep_json.specs.declared.nodes.NamedParts.{NamedParts}
use Rattle.bep_document.specs.declared.parts.ViewParts.{ViewParts}

-- the names of the members
abbrev pub share_names : List (List ℕ)
share_names = codes "device" ∷ codes "kind" ∷ codes "index_id" ∷ codes "max" ∷ codes "own" ∷ codes "store" ∷ codes "views" ∷ codes "pulls" ∷ []

-- what is told of the members, by what stands at each name
abbrev pub share_slots : DocVersion → (List ℕ → Option Data) → ShareSlots
share_slots version look = record {
  device = slot (is_whole) (read_number 1 greatest_id) (look (codes "device"));
  kind = slot (is_text) (read_folder_kind) (look (codes "kind"));
  index_id = slot (is_whole) (read_number 1 greatest_id) (look (codes "index_id"));
  max = slot (is_whole) (read_number 0 MAX_SEQUENCE) (look (codes "max"));
  own = slot (is_list (is_record version)) (read_few MAX_NAMES (read_record version)) (look (codes "own"));
  store = slot (is_list is_node) (read_list (read_node version)) (look (codes "store"));
  views = slot (is_list (is_view version)) (read_list (read_view version)) (look (codes "views"));
  pulls = slot (is_list (is_record version)) (read_few MAX_PULLS (read_record version)) (look (codes "pulls"));
}

-- the device with these things
abbrev pub share_of : ℕ × (FolderKind × (ℕ × (ℕ × (List Entry × (List NamedParts × (List ViewParts × List Entry)))))) → ShareParts
share_of t = record {
  device = t.0;
  kind = t.1.0;
  index_id = t.1.1.0;
  max = t.1.1.1.0;
  own = t.1.1.1.1.0;
  store = t.1.1.1.1.1.0;
  views = t.1.1.1.1.1.1.0;
  pulls = t.1.1.1.1.1.1.1;
}

-- what is told of all members
abbrev pub share_things : ShareSlots → Result (ℕ × (FolderKind × (ℕ × (ℕ × (List Entry × (List NamedParts × (List ViewParts × List Entry))))))) Misread
share_things slots = (both (due slots.device) (both (due slots.kind) (both (due slots.index_id) (both (due slots.max) (both (due_or [] slots.own) (both (due_or [] slots.store) (both (due_or [] slots.views) (due_or [] slots.pulls))))))))

-- what is told of the device
abbrev pub share_told : Option ShareSlots → Result ShareParts Misread
share_told None = Err Shape
share_told (Some slots) = told_as share_of (share_things slots)
