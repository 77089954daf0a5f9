-- What is told of the members of a record.
use Rattle.std.specs.Prelude.{ℕ, ℤ, Bool, true, false, ◌&&◌, ◌||◌, not, List, [], ◌∷◌, Option, Result, Err, is_some, unwrap_or, codes, if◌then◌else◌}
use Rattle.serde_json.specs.Data.{Data}
use Rattle.bep_record.specs.declared.entry.Entry.{Entry}
use Rattle.bep_record.specs.declared.kind.Kind.{Kind}
use Rattle.bep_record.specs.declared.limits.TheConstants.{MAX_NANOSECONDS}
use Rattle.bep_json.specs.declared.told.Misread.{Misread}
use Rattle.bep_json.specs.declared.told.Misread.TheVariants.{Shape}
use Rattle.bep_json.specs.declared.version.DocVersion.{DocVersion}
use Rattle.bep_json.specs.declared.version.DocVersion.TheVariants.{One, Two}
use Rattle.bep_json.specs.declared.record_slots.RecordSlots.{RecordSlots}
use Rattle.bep_json.specs.Version.{most_file_bytes}
use Rattle.bep_json.specs.Numbers.{is_whole, is_flag, read_number, read_signed, read_flag, read_kind, greatest_id}
use Rattle.bep_json.specs.Texts.{is_text, read_name, read_target, read_hash}
use Rattle.bep_json.specs.Lists.{is_list, read_list, is_pair, read_pair, is_version}
use Rattle.bep_json.specs.Records.{says_file, says_present, default_block_size, blocks_from}
use Rattle.bep_json.specs.Taking.{slot, due, due_or, both}
use Rattle.bep_json.specs.inner.Said.{said, said_or, optional, if_so, told_by}

-- the names of the members
abbrev pub record_names : List (List ℕ)
record_names =
    codes "name" ∷ codes "type" ∷ codes "modified_s" ∷ codes "modified_by" ∷ codes "version" ∷ codes "sequence" ∷ codes "size" ∷ codes "modified_ns" ∷ codes "deleted" ∷ codes "invalid" ∷ codes "block_size" ∷ codes "blocks" ∷ codes "target" ∷ []

-- what is told of the members, by what stands at each name
abbrev pub record_slots : DocVersion → (List ℕ → Option Data) → RecordSlots
record_slots version look = record {
  name = slot is_text read_name (look (codes "name"));
  kind = slot is_whole read_kind (look (codes "type"));
  modified_s = slot is_whole read_signed (look (codes "modified_s"));
  modified_by = slot is_whole (read_number 1 greatest_id) (look (codes "modified_by"));
  counters = slot (is_list is_pair) (read_list read_pair) (look (codes "version"));
  sequence = slot is_whole (read_number 0 9223372036854775807) (look (codes "sequence"));
  size = slot is_whole (read_number 0 (most_file_bytes version)) (look (codes "size"));
  modified_ns = slot is_whole (read_number 0 MAX_NANOSECONDS) (look (codes "modified_ns"));
  deleted = slot is_flag read_flag (look (codes "deleted"));
  invalid = slot is_flag read_flag (look (codes "invalid"));
  block_size = slot is_whole (read_number 0 4294967295) (look (codes "block_size"));
  hashes = slot (is_list is_text) (read_list read_hash) (look (codes "blocks"));
  target = slot is_text read_target (look (codes "target"));
}

-- the record says its block size, where its document's version asks for that
abbrev pub tells_due_block_size : DocVersion → RecordSlots → Bool
tells_due_block_size One slots = true
tells_due_block_size Two slots = not (says_file (said slots.kind) && says_present (said_or false slots.deleted)) || is_some slots.block_size

-- what is told of all members, whether the counters are a version vector or not
abbrev pub record_things : RecordSlots → Result (List ℕ × (Kind × (ℤ × (ℕ × (List (ℕ × ℕ) × (ℕ × (ℕ × (ℕ × (Bool × (Bool × (Option ℕ × (List (List ℕ) × (List ℕ))))))))))))) Misread
record_things slots =
    both (due slots.name) (both (due slots.kind) (both (due slots.modified_s) (both (due slots.modified_by)
    (both (due slots.counters) (both (due slots.sequence) (both (due_or 0 slots.size) (both (due_or 0 slots.modified_ns)
    (both (due_or false slots.deleted) (both (due_or false slots.invalid) (both (optional slots.block_size)
    (both (due_or [] slots.hashes) (due_or [] slots.target))))))))))))

-- the record with these things
abbrev pub entry_of : List ℕ × (Kind × (ℤ × (ℕ × (List (ℕ × ℕ) × (ℕ × (ℕ × (ℕ × (Bool × (Bool × (Option ℕ × (List (List ℕ) × (List ℕ)))))))))))) → Entry
entry_of t = record {
  name = t.0;
  kind = t.1.0;
  size = t.1.1.1.1.1.1.0;
  modified_s = t.1.1.0;
  modified_ns = t.1.1.1.1.1.1.1.0;
  modified_by = t.1.1.1.0;
  deleted = t.1.1.1.1.1.1.1.1.0;
  invalid = t.1.1.1.1.1.1.1.1.1.0;
  no_permissions = true;
  version = t.1.1.1.1.0;
  sequence = t.1.1.1.1.1.0;
  block_size = unwrap_or t.1.1.1.1.1.1.1.1.1.1.0 (default_block_size t.1.0 t.1.1.1.1.1.1.1.1.0);
  blocks = blocks_from t.1.1.1.1.1.1.0 0 t.1.1.1.1.1.1.1.1.1.1.1.0;
  target = t.1.1.1.1.1.1.1.1.1.1.1.1;
}

-- the record with these things, if the counters are a version vector
abbrev pub record_of : List ℕ × (Kind × (ℤ × (ℕ × (List (ℕ × ℕ) × (ℕ × (ℕ × (ℕ × (Bool × (Bool × (Option ℕ × (List (List ℕ) × (List ℕ)))))))))))) → Result Entry Misread
record_of t = if_so (is_version t.1.1.1.1.0) (entry_of t)

-- what is told of the record
abbrev pub record_told : DocVersion → RecordSlots → Result Entry Misread
record_told version slots = if tells_due_block_size version slots then told_by record_of (record_things slots) else Err Shape
