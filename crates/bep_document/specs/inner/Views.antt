-- What is told of the members of a view.
use Rattle.std.specs.Prelude.{ℕ, List, [], ◌∷◌, Option, None, Some, Result, Err, codes}
use Rattle.serde_json.specs.Data.{Data}
use Rattle.bep_json.specs.declared.told.Misread.{Misread}
use Rattle.bep_json.specs.declared.told.Misread.TheVariants.{Shape}
use Rattle.bep_json.specs.declared.version.DocVersion.{DocVersion}
use Rattle.bep_json.specs.Taking.{slot, due, both, told_as}
use Rattle.bep_document.specs.declared.parts.ViewParts.{ViewParts}
use Rattle.bep_document.specs.declared.take.views.ViewSlots.{ViewSlots}
use Rattle.bep_json.specs.Records.{is_record, read_record}
use Rattle.bep_json.specs.Lists.{is_list}
use Rattle.bep_document.specs.read.Few.{read_few}
use Rattle.bep_json.specs.Numbers.{is_whole, read_number, greatest_id}
use Rattle.bep_index.specs.declared.limits.TheConstants.{MAX_NAMES, MAX_SEQUENCE}
use Rattle.bep_record.specs.declared.entry.Entry.{Entry}

-- the names of the members
abbrev pub view_names : List (List ℕ)
view_names = codes "of" ∷ codes "index_id" ∷ codes "max" ∷ codes "records" ∷ []

-- what is told of the members, by what stands at each name
abbrev pub view_slots : DocVersion → (List ℕ → Option Data) → ViewSlots
view_slots version look = record {
  of = slot (is_whole) (read_number 1 greatest_id) (look (codes "of"));
  index_id = slot (is_whole) (read_number 0 greatest_id) (look (codes "index_id"));
  max = slot (is_whole) (read_number 0 MAX_SEQUENCE) (look (codes "max"));
  records = slot (is_list (is_record version)) (read_few MAX_NAMES (read_record version)) (look (codes "records"));
}

-- the view with these things
abbrev pub view_of : ℕ × (ℕ × (ℕ × List Entry)) → ViewParts
view_of t = record {
  of = t.0;
  index_id = t.1.0;
  max = t.1.1.0;
  records = t.1.1.1;
}

-- what is told of the view
abbrev pub view_told : Option ViewSlots → Result ViewParts Misread
view_told None = Err Shape
view_told (Some slots) = told_as view_of (both (due slots.of) (both (due slots.index_id) (both (due slots.max) (due slots.records))))
