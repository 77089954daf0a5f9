-- Small cuts on which the definitions are tried out (this project's profile).
use Rattle.std.specs.Prelude.{ℕ, true, false, pos, List, [], ◌∷◌, Option, Some, None, if◌then◌else◌, ◌==◌}
use Rattle.std.specs.Ordering.{is_eq}
use Rattle.bep_record.specs.Block.{base_block_size}
use Rattle.bep_record.specs.declared.entry.Entry.{Entry}
use Rattle.bep_record.specs.declared.limits.TheConstants.{HASH_OF_NOTHING}
use Rattle.bep_record.specs.declared.kind.Kind.TheVariants.{File, Symlink}
use Rattle.bep_record.specs.declared.node.NodeParts.{NodeParts}
use Rattle.bep_record.specs.declared.folder_kind.FolderKind.{FolderKind}
use Rattle.bep_record.specs.declared.folder_kind.FolderKind.TheVariants.{SendReceive, SendOnly}
use Rattle.bep_model.specs.declared.row.Row.{Row}
use Rattle.bep_model.specs.Tables.{Tables, Device, Folder, FileName}
use Rattle.bep_model.specs.Settled.{key_cmp}
use Rattle.bep_model.specs.Reasons.{Place}

-- the folder `f` and the name `a`, on which all examples are
abbrev pub folder_f : Folder
folder_f = 102 ∷ []

abbrev pub name_a : FileName
name_a = 97 ∷ []

-- versions: of a change by device 1, of a second change by it, and of a change by device 2 alone
abbrev pub by_one : List (ℕ × ℕ)
by_one = (1, 1) ∷ []

abbrev pub twice_by_one : List (ℕ × ℕ)
twice_by_one = (1, 2) ∷ []

abbrev pub by_two : List (ℕ × ℕ)
by_two = (2, 1) ∷ []

-- a deletion of the name by device 1, of this version
abbrev pub deletion : List (ℕ × ℕ) → Entry
deletion version = record {
  name = name_a;
  kind = File;
  size = 0;
  modified_s = pos 0;
  modified_ns = 0;
  modified_by = 1;
  deleted = true;
  invalid = false;
  no_permissions = true;
  version = version;
  sequence = 1;
  block_size = 0;
  blocks = [];
  target = [];
}

-- a symlink that a device made, with a target of one byte
abbrev pub link : Device → ℕ → List (ℕ × ℕ) → Entry
link device byte version = record (deletion version) { kind = Symlink; modified_by = device; deleted = false; target = byte ∷ [] }

-- an empty file that device 1 made at second 0
abbrev pub empty_file : List (ℕ × ℕ) → Entry
empty_file version = record (deletion version) {
  deleted = false;
  block_size = base_block_size;
  blocks = record { offset = 0; size = 0; hash = HASH_OF_NOTHING } ∷ [];
}

-- such a symlink in a store, and such a file, changed at this second
abbrev pub link_node : ℕ → ℕ → NodeParts
link_node byte second = record { kind = Symlink; bytes = []; target = byte ∷ []; modified_s = pos second; modified_ns = 0 }

abbrev pub file_node : ℕ → NodeParts
file_node second = record (link_node 0 second) { kind = File; target = [] }

-- this record at the name, and none at another
abbrev pub at_the_name : Option Entry → Folder → FileName → Option Entry
at_the_name entry folder name = if is_eq (key_cmp (folder, name) (folder_f, name_a)) then entry else None

-- devices 1 and 2 share all folders, 2 in this kind; each has this record of the name, or none; nothing is stored, seen,
-- pulled or on its way
abbrev pub two_devices : FolderKind → Option Entry → Option Entry → Tables
two_devices kind one two = record {
  sharing = λ folder. (1, SendReceive) ∷ (2, kind) ∷ [];
  own = λ device folder name. at_the_name (if device == 1 then one else two) folder name;
  node = λ device folder name. None;
  viewed = λ device other folder name. None;
  target = λ device folder name. None;
  flying = λ sender receiver. [];
}

-- both devices have the deletion
abbrev pub shared_deletion : Tables
shared_deletion = two_devices SendReceive (Some (deletion by_one)) (Some (deletion by_one))

-- device 1 has the second version of the symlink with target `b`, and device 2, which only sends, has this record
abbrev pub send_only : Entry → Tables
send_only two = two_devices SendOnly (Some (link 1 98 twice_by_one)) (Some two)

-- two concurrent symlinks of one time: device 1 has the one that device 2 made, and device 2 the one that device 1 made
abbrev pub crossed_links : Tables
crossed_links = two_devices SendReceive (Some (link 2 99 by_two)) (Some (link 1 98 by_one))

-- device 1 has a deletion, device 2 this record, and the older symlink is on its way from each to each
abbrev pub old_link_flies : Option Entry → Tables
old_link_flies two = record (two_devices SendReceive (Some (deletion twice_by_one)) two) {
  flying = λ sender receiver. record { folder = folder_f; full = false; records = link 1 98 by_one ∷ [] } ∷ [];
}

-- both devices have the empty file, and hold one that was changed at this second
abbrev pub files_of : ℕ → Tables
files_of second = record (two_devices SendReceive (Some (empty_file by_one)) (Some (empty_file by_one))) {
  node = λ device folder name. Some (file_node second);
}

-- both devices have the second version of a deletion, and each sees this record in the other's index
abbrev pub deletion_viewing : Entry → Tables
deletion_viewing entry = record (two_devices SendReceive (Some (deletion twice_by_one)) (Some (deletion twice_by_one))) {
  viewed = λ device other folder name. at_the_name (Some entry) folder name;
}

-- the same, and each pulls this record
abbrev pub deletion_pulling : Entry → Tables
deletion_pulling entry = record (two_devices SendReceive (Some (deletion twice_by_one)) (Some (deletion twice_by_one))) {
  target = λ device folder name. at_the_name (Some entry) folder name;
}

-- the row of the name
abbrev pub row_of : Device → Entry → Row
row_of device entry = record { folder = folder_f; device = device; entry = entry }

-- a device's part of the name
abbrev pub place_of : Device → Place
place_of device = record { folder = folder_f; name = name_a; device = Some device }

-- the name as a whole
abbrev pub place_of_name : Place
place_of_name = record { folder = folder_f; name = name_a; device = None }
