-- What is told of the members of a node.
use Rattle.std.specs.Prelude.{ℕ, ℤ, Bool, ◌||◌, not, List, [], ◌∷◌, Option, None, Some, Result, Ok, Err, is_some, codes, if◌then◌else◌}
use Rattle.serde_json.specs.Data.{Data}
use Rattle.bep_record.specs.declared.kind.Kind.{Kind}
use Rattle.bep_record.specs.declared.limits.TheConstants.{MAX_NANOSECONDS}
use Rattle.bep_json.specs.declared.told.Misread.{Misread}
use Rattle.bep_json.specs.declared.told.Misread.TheVariants.{Shape}
use Rattle.bep_json.specs.declared.version.DocVersion.{DocVersion}
use Rattle.bep_json.specs.declared.nodes.NamedParts.{NamedParts}
use Rattle.bep_json.specs.declared.node_slots.NodeSlots.{NodeSlots}
use Rattle.bep_json.specs.Numbers.{is_whole, read_number, read_signed, read_kind}
use Rattle.bep_json.specs.Texts.{is_text, read_name, read_target, read_text_bytes, read_hex_bytes}
use Rattle.bep_json.specs.Nodes.{says_symlink}
use Rattle.bep_json.specs.Taking.{slot, due, due_or, both, told_as}
use Rattle.bep_json.specs.inner.Said.{said}

-- the names of the members
abbrev pub node_names : List (List ℕ)
node_names =
    codes "name" ∷ codes "type" ∷ codes "modified_s" ∷ codes "modified_ns" ∷ codes "text" ∷ codes "hex" ∷ codes "target" ∷ []

-- what is told of the members, by what stands at each name
abbrev pub node_slots : DocVersion → (List ℕ → Option Data) → NodeSlots
node_slots version look = record {
  name = slot is_text read_name (look (codes "name"));
  kind = slot is_whole read_kind (look (codes "type"));
  modified_s = slot is_whole read_signed (look (codes "modified_s"));
  modified_ns = slot is_whole (read_number 0 MAX_NANOSECONDS) (look (codes "modified_ns"));
  text = slot is_text (read_text_bytes version) (look (codes "text"));
  hex = slot is_text (read_hex_bytes version) (look (codes "hex"));
  target = slot is_text read_target (look (codes "target"));
}

-- the bytes: those of the text, or those of the digits, or none, but not both
abbrev pub body_told : Option (Result (List ℕ) Misread) → Option (Result (List ℕ) Misread) → Result (List ℕ) Misread
body_told None None = Ok []
body_told None (Some digits) = digits
body_told (Some text) None = text
body_told (Some text) (Some digits) = Err Shape

-- a symlink says where it leads
abbrev pub tells_due_target : NodeSlots → Bool
tells_due_target slots = not (says_symlink (said slots.kind)) || is_some slots.target

-- what is told of all members
abbrev pub node_things : NodeSlots → Result (List ℕ × (Kind × (ℤ × (ℕ × (List ℕ × List ℕ))))) Misread
node_things slots =
    both (due slots.name) (both (due slots.kind) (both (due slots.modified_s) (both (due_or 0 slots.modified_ns)
    (both (body_told slots.text slots.hex) (due_or [] slots.target)))))

-- the node with these things
abbrev pub node_of : List ℕ × (Kind × (ℤ × (ℕ × (List ℕ × List ℕ)))) → NamedParts
node_of t = record {
  name = t.0;
  parts = record { kind = t.1.0; bytes = t.1.1.1.1.0; target = t.1.1.1.1.1; modified_s = t.1.1.0; modified_ns = t.1.1.1.0 };
}

-- what is told of the node
abbrev pub node_told : NodeSlots → Result NamedParts Misread
node_told slots = if tells_due_target slots then told_as node_of (node_things slots) else Err Shape
