-- Records in JSON trees (BEP v1, 'FileInfo'; members and defaults are this project's profile).
use Rattle.std.specs.Prelude.{ℕ, ◌+◌, ◌-◌, ◌&&◌, ◌||◌, not, min, Bool, true, false, List, [], ◌∷◌, Option, Some, None, is_some, codes}
use Rattle.serde_json.specs.Data.{Data}
use Rattle.serde_json.specs.Find.{get}
use Rattle.bep_record.specs.Block.{base_block_size, block_size_of}
use Rattle.bep_record.specs.declared.block.Block.{Block}
use Rattle.bep_record.specs.declared.entry.Entry.{Entry}
use Rattle.bep_record.specs.declared.kind.Kind.{Kind}
use Rattle.bep_record.specs.declared.kind.Kind.TheVariants.{File, Directory, Symlink}
use Rattle.bep_record.specs.declared.limits.TheConstants.{MAX_NANOSECONDS}
use Rattle.bep_json.specs.declared.version.DocVersion.{DocVersion}
use Rattle.bep_json.specs.declared.version.DocVersion.TheVariants.{One, Two}
use Rattle.bep_json.specs.Version.{most_file_bytes}
use Rattle.bep_json.specs.Tree.{due, may, is_object}
use Rattle.bep_json.specs.Reading.{◌>>=◌, read_member, read_member_or}
use Rattle.bep_json.specs.Numbers.{is_whole, is_flag, read_number, read_signed, read_flag, read_kind, greatest_id}
use Rattle.bep_json.specs.Texts.{is_text, read_name, read_target, read_hash}
use Rattle.bep_json.specs.Lists.{is_list, read_list, is_pair, read_version}

-- an object with the members of a record, each of its kind, and no others
unfoldable pub has_record_members : Data → Bool
has_record_members d =
    is_object
    (due (codes "name") is_text ∷ due (codes "type") is_whole ∷ due (codes "modified_s") is_whole ∷
    due (codes "modified_by") is_whole ∷ due (codes "version") (is_list is_pair) ∷ due (codes "sequence") is_whole ∷
    may (codes "size") is_whole ∷ may (codes "modified_ns") is_whole ∷ may (codes "deleted") is_flag ∷
    may (codes "invalid") is_flag ∷ may (codes "block_size") is_whole ∷ may (codes "blocks") (is_list is_text) ∷
    may (codes "target") is_text ∷ [])
    d

-- the kind, if one is read, is a file's
abbrev pub says_file : Option Kind → Bool
says_file None = false
says_file (Some File) = true
says_file (Some Directory) = false
says_file (Some Symlink) = false

-- the flag, if one is read, doesn't say that the record is deleted
abbrev pub says_present : Option Bool → Bool
says_present None = false
says_present (Some deleted) = not deleted

-- the record says its block size, where its document's version asks for that: in version 2, where it is of a file that
-- isn't deleted
unfoldable pub has_due_block_size : DocVersion → Data → Bool
has_due_block_size One d = true
has_due_block_size Two d =
    not (says_file (read_member (codes "type") read_kind d) && says_present (read_member_or (codes "deleted") read_flag false d))
    || is_some (get (codes "block_size") d)

-- a record: its members, and a block size where one is due
unfoldable pub is_record : DocVersion → Data → Bool
is_record version d = has_record_members d && has_due_block_size version d

-- the block size of a record that doesn't say one: that of small files, if it is of a file that isn't deleted
abbrev pub default_block_size : Kind → Bool → ℕ
default_block_size File false = base_block_size
default_block_size File true = 0
default_block_size Directory deleted = 0
default_block_size Symlink deleted = 0

-- the blocks with these hashes of a file of this size: each begins where the one before it ended, and is a whole block of
-- the block size of that length, or has as many bytes as the file has left
abbrev pub blocks_from : ℕ → ℕ → List (List ℕ) → List Block
blocks_from size offset [] = []
blocks_from size offset (hash ∷ more) =
    record { offset = offset; size = min (block_size_of size) (size - offset); hash = hash }
    ∷ blocks_from size (offset + min (block_size_of size) (size - offset)) more

-- the record, well formed or not
unfoldable pub read_record : DocVersion → Data → Option Entry
read_record version d = do
  name ← read_member (codes "name") read_name d
  kind ← read_member (codes "type") read_kind d
  modified_s ← read_member (codes "modified_s") read_signed d
  modified_by ← read_member (codes "modified_by") (read_number 1 greatest_id) d
  counters ← read_member (codes "version") read_version d
  sequence ← read_member (codes "sequence") (read_number 0 9223372036854775807) d
  size ← read_member_or (codes "size") (read_number 0 (most_file_bytes version)) 0 d
  modified_ns ← read_member_or (codes "modified_ns") (read_number 0 MAX_NANOSECONDS) 0 d
  deleted ← read_member_or (codes "deleted") read_flag false d
  invalid ← read_member_or (codes "invalid") read_flag false d
  block_size ← read_member_or (codes "block_size") (read_number 0 4294967295) (default_block_size kind deleted) d
  hashes ← read_member_or (codes "blocks") (read_list read_hash) [] d
  target ← read_member_or (codes "target") read_target [] d
  Some (record {
    name = name;
    kind = kind;
    size = size;
    modified_s = modified_s;
    modified_ns = modified_ns;
    modified_by = modified_by;
    deleted = deleted;
    invalid = invalid;
    no_permissions = true;
    version = counters;
    sequence = sequence;
    block_size = block_size;
    blocks = blocks_from size 0 hashes;
    target = target;
  })
