-- What a store holds at a name, and when it is clean against a record (this project's profile).
use Rattle.std.specs.Prelude.{◌≡◌, ◌≢◌, ◌≤◌, ⊤, false, IsTrue, [], length, Option, Some, None}
use Rattle.bep_record.specs.declared.kind.Kind.{Kind}
use Rattle.bep_record.specs.declared.kind.Kind.TheVariants.{File, Directory, Symlink}
use Rattle.bep_record.specs.declared.entry.Entry.{Entry}
use Rattle.bep_record.specs.declared.node.NodeParts.{NodeParts}
use Rattle.bep_record.specs.declared.limits.TheConstants.{MAX_FILE_SIZE, MAX_NANOSECONDS}

-- only a file has bytes, and only a symlink has a target
abbrev pub FitsKind : Kind → NodeParts → Type 0
FitsKind File node = node.target ≡ []
FitsKind Directory node = (node.bytes ≡ []) × (node.target ≡ [])
FitsKind Symlink node = (node.bytes ≡ []) × (node.target ≢ [])

-- a node: its bytes and its time are within their limits, and bytes and target fit its kind
pub record IsNode (node : NodeParts) : Type 0 where
  pub size : length node.bytes ≤ MAX_FILE_SIZE
  pub nanoseconds : node.modified_ns ≤ MAX_NANOSECONDS
  pub body : FitsKind node.kind node

-- what a scan compares of a node, by its kind: a file's size and time, a symlink's target
abbrev pub LooksSame : Kind → NodeParts → Entry → Type 0
LooksSame File node entry = (length node.bytes ≡ entry.size) × (node.modified_s ≡ entry.modified_s) × (node.modified_ns ≡ entry.modified_ns)
LooksSame Directory node entry = ⊤
LooksSame Symlink node entry = node.target ≡ entry.target

-- a node, or its absence, is clean against a record, or its absence
abbrev pub IsClean : Option NodeParts → Option Entry → Type 0
IsClean None None = ⊤
IsClean None (Some entry) = IsTrue entry.deleted
IsClean (Some node) None = ⊥
IsClean (Some node) (Some entry) = (entry.deleted ≡ false) × (node.kind ≡ entry.kind) × LooksSame node.kind node entry
