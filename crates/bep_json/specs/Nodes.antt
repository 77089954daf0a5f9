-- Nodes of stores in JSON trees (this project's profile).
use Rattle.std.specs.Prelude.{ℕ, ◌&&◌, ◌||◌, not, Bool, true, false, List, [], ◌∷◌, Option, Some, None, is_some, codes}
use Rattle.serde_json.specs.Data.{Data}
use Rattle.serde_json.specs.Find.{get}
use Rattle.bep_record.specs.declared.kind.Kind.{Kind}
use Rattle.bep_record.specs.declared.kind.Kind.TheVariants.{File, Directory, Symlink}
use Rattle.bep_json.specs.declared.nodes.NamedParts.{NamedParts}
use Rattle.bep_json.specs.declared.version.DocVersion.{DocVersion}
use Rattle.bep_record.specs.declared.limits.TheConstants.{MAX_NANOSECONDS}
use Rattle.bep_json.specs.Tree.{due, may, is_object}
use Rattle.bep_json.specs.Reading.{◌>>=◌, read_member, read_member_or}
use Rattle.bep_json.specs.Numbers.{is_whole, read_number, read_signed, read_kind}
use Rattle.bep_json.specs.Texts.{is_text, read_name, read_target, read_text_bytes, read_hex_bytes}

-- an object with the members of a node, each of its kind, and no others
unfoldable pub has_node_members : Data → Bool
has_node_members d =
    is_object
    (due (codes "name") is_text ∷ due (codes "type") is_whole ∷ due (codes "modified_s") is_whole ∷
    may (codes "modified_ns") is_whole ∷ may (codes "text") is_text ∷ may (codes "hex") is_text ∷
    may (codes "target") is_text ∷ [])
    d

-- the bytes are written in one way at most
unfoldable pub has_one_body : Data → Bool
has_one_body d = not (is_some (get (codes "text") d) && is_some (get (codes "hex") d))

-- the kind, if one is read, is a symlink's
abbrev pub says_symlink : Option Kind → Bool
says_symlink None = false
says_symlink (Some File) = false
says_symlink (Some Directory) = false
says_symlink (Some Symlink) = true

-- a symlink says where it leads
unfoldable pub has_due_target : Data → Bool
has_due_target d = not (says_symlink (read_member (codes "type") read_kind d)) || is_some (get (codes "target") d)

-- a node: its members, one body at most, and a target where one is due
unfoldable pub is_node : Data → Bool
is_node d = has_node_members d && (has_one_body d && has_due_target d)

-- the bytes: those of the text, where there is one, else those of the hexadecimal digits, else none
abbrev pub read_body : DocVersion → Option Data → Data → Option (List ℕ)
read_body version (Some text) d = read_text_bytes version text
read_body version None d = read_member_or (codes "hex") (read_hex_bytes version) [] d

-- the name and what stands there, whether it fits its kind or not
unfoldable pub read_node : DocVersion → Data → Option NamedParts
read_node version d = do
  name ← read_member (codes "name") read_name d
  kind ← read_member (codes "type") read_kind d
  modified_s ← read_member (codes "modified_s") read_signed d
  modified_ns ← read_member_or (codes "modified_ns") (read_number 0 MAX_NANOSECONDS) 0 d
  bytes ← read_body version (get (codes "text") d) d
  target ← read_member_or (codes "target") read_target [] d
  Some (record {
    name = name;
    parts = record { kind = kind; bytes = bytes; target = target; modified_s = modified_s; modified_ns = modified_ns };
  })
