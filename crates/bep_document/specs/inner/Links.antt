-- What is told of the members of a link.
use Rattle.std.specs.Prelude.{ℕ, Bool, List, [], ◌∷◌, Option, None, Some, Result, Err, codes}
use Rattle.serde_json.specs.Data.{Data}
use Rattle.bep_json.specs.declared.told.Misread.{Misread}
use Rattle.bep_json.specs.declared.told.Misread.TheVariants.{Shape}
use Rattle.bep_json.specs.declared.version.DocVersion.{DocVersion}
use Rattle.bep_json.specs.Taking.{slot, due, due_or, both, told_as}
use Rattle.bep_document.specs.declared.parts.LinkParts.{LinkParts}
use Rattle.bep_document.specs.declared.take.links.LinkSlots.{LinkSlots}
use Rattle.bep_json.specs.Lists.{is_list}
use Rattle.bep_document.specs.read.Few.{read_few}
use Rattle.bep_json.specs.Numbers.{is_whole, is_flag, read_number, read_flag, greatest_id}
use Rattle.bep_index.specs.declared.limits.TheConstants.{MAX_SEQUENCE}
use Rattle.bep_record.specs.declared.limits.TheConstants.{MAX_MESSAGES}
use Rattle.bep_document.specs.read.Links.{is_flight, read_flight}
use Rattle.bep_document.specs.declared.parts.FlightParts.{FlightParts}

-- the names of the members
abbrev pub link_names : List (List ℕ)
link_names = codes "a" ∷ codes "b" ∷ codes "up" ∷ codes "epoch" ∷ codes "to_a" ∷ codes "to_b" ∷ []

-- what is told of the members, by what stands at each name
abbrev pub link_slots : DocVersion → (List ℕ → Option Data) → LinkSlots
link_slots version look = record {
  a = slot (is_whole) (read_number 1 greatest_id) (look (codes "a"));
  b = slot (is_whole) (read_number 1 greatest_id) (look (codes "b"));
  up = slot (is_flag) (read_flag) (look (codes "up"));
  epoch = slot (is_whole) (read_number 0 MAX_SEQUENCE) (look (codes "epoch"));
  to_a = slot (is_list (is_flight version)) (read_few MAX_MESSAGES (read_flight version)) (look (codes "to_a"));
  to_b = slot (is_list (is_flight version)) (read_few MAX_MESSAGES (read_flight version)) (look (codes "to_b"));
}

-- the link with these things
abbrev pub link_of : ℕ × (ℕ × (Bool × (ℕ × (List FlightParts × List FlightParts)))) → LinkParts
link_of t = record {
  a = t.0;
  b = t.1.0;
  up = t.1.1.0;
  epoch = t.1.1.1.0;
  to_a = t.1.1.1.1.0;
  to_b = t.1.1.1.1.1;
}

-- what is told of all members
abbrev pub link_things : LinkSlots → Result (ℕ × (ℕ × (Bool × (ℕ × (List FlightParts × List FlightParts))))) Misread
link_things slots = (both (due slots.a) (both (due slots.b) (both (due slots.up) (both (due slots.epoch) (both (due_or [] slots.to_a) (due_or [] slots.to_b))))))

-- what is told of the link
abbrev pub link_told : Option LinkSlots → Result LinkParts Misread
link_told None = Err Shape
link_told (Some slots) = told_as link_of (link_things slots)
