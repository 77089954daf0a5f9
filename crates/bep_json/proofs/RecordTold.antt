-- What is told of the members of a record is what is told of it.
use Rattle.std.specs.Prelude.{Bool, true, false, Option, None, Some, Err, List, ℕ, ℤ, [], ◌||◌, not, if◌then◌else◌, option_map, codes}
use Rattle.std.proofs.Common.{◌≡◌, ◌∙◌, ◌&&◌, refl, sym, ap, ap₂}
use Rattle.std.proofs.Math.Bool.{and_comm}
use Rattle.serde_json.specs.Data.{Data}
use Rattle.serde_json.specs.Find.{get}
use Rattle.bep_tree.specs.Names.{has_only}
use Rattle.bep_record.specs.declared.entry.Entry.{Entry}
use Rattle.bep_record.specs.declared.kind.Kind.{Kind}
use Rattle.bep_record.specs.declared.limits.TheConstants.{MAX_NANOSECONDS}
use Rattle.bep_json.specs.declared.told.Misread.TheVariants.{Shape}
use Rattle.bep_json.specs.declared.version.DocVersion.{DocVersion}
use Rattle.bep_json.specs.declared.version.DocVersion.TheVariants.{One, Two}
use Rattle.bep_json.specs.declared.record_slots.RecordSlots.{RecordSlots}
use Rattle.bep_json.specs.Version.{most_file_bytes}
use Rattle.bep_json.specs.Reading.{◌>>=◌, read_member, read_or, read_member_or}
use Rattle.bep_json.specs.Tree.{has_member, may_have_member}
use Rattle.bep_json.specs.Numbers.{is_whole, is_flag, read_number, read_signed, read_flag, read_kind, greatest_id}
use Rattle.bep_json.specs.Texts.{is_text, read_name, read_target, read_hash}
use Rattle.bep_json.specs.Lists.{is_list, read_list, is_pair, read_pair, read_version}
use Rattle.bep_json.specs.Records.{is_record, has_record_members, has_due_block_size, says_file, says_present, default_block_size, blocks_from, read_record}
use Rattle.bep_json.specs.Taking.{judged, due, due_or, both, told_as}
use Rattle.bep_json.specs.inner.Filled.{AreFilled}
use Rattle.bep_json.specs.inner.Said.{optional, read_optional, told_by}
use Rattle.bep_json.specs.inner.Records.{record_names, record_slots, tells_due_block_size, record_things, entry_of, record_of, record_told}
use Rattle.bep_json.proofs.TakingFacts.{due_is, due_or_is, both_is, told_as_is, pair, read_13}
use Rattle.bep_json.proofs.VectorTold.{vector_told, vector_is, fifth_asked_last}
use Rattle.bep_json.proofs.SaidFacts.{said_is, said_or_is, is_there, optional_is, if_also, kinds_are_whole, flags_are_flags}

-- ---- the block size

block_size_is : (version : DocVersion) (d : Data) → tells_due_block_size version (record_slots version (λ name. get name d)) ≡ has_due_block_size version d
unfolding has_due_block_size
block_size_is One d = refl
block_size_is Two d =
    ap₂ (λ of_file there. not of_file || there)
    (ap₂ (λ kind deleted. says_file kind && says_present deleted)
    (said_is is_whole read_kind (get (codes "type") d) kinds_are_whole)
    (said_or_is false is_flag read_flag (get (codes "deleted") d) flags_are_flags))
    (is_there is_whole (read_number 0 4294967295) (get (codes "block_size") d))

-- a record whose block size may not be said
abbrev by_optional : (name : Option (List ℕ)) (kind : Option Kind) (modified_s : Option ℤ) (modified_by : Option ℕ) (counters : Option (List (ℕ × ℕ))) (sequence : Option ℕ) (size : Option ℕ) (modified_ns : Option ℕ) (deleted : Option Bool) (invalid : Option Bool) (hashes : Option (List (List ℕ))) (target : Option (List ℕ)) (block_size : Option (Option ℕ)) → Option Entry
by_optional name kind modified_s modified_by counters sequence size modified_ns deleted invalid hashes target block_size =
    name >>= λ x_name. kind >>= λ x_kind. modified_s >>= λ x_modified_s. modified_by >>= λ x_modified_by. counters >>= λ x_counters. sequence >>= λ x_sequence. size >>= λ x_size. modified_ns >>= λ x_modified_ns. deleted >>= λ x_deleted. invalid >>= λ x_invalid. block_size >>= λ x_block_size. hashes >>= λ x_hashes. target >>= λ x_target. Some (entry_of (x_name, (x_kind, (x_modified_s, (x_modified_by, (x_counters, (x_sequence, (x_size, (x_modified_ns, (x_deleted, (x_invalid, (x_block_size, (x_hashes, x_target)))))))))))))

-- a record whose block size is what is said, or else goes by the kind, and by whether it is deleted
abbrev by_default : (name : Option (List ℕ)) (kind : Option Kind) (modified_s : Option ℤ) (modified_by : Option ℕ) (counters : Option (List (ℕ × ℕ))) (sequence : Option ℕ) (size : Option ℕ) (modified_ns : Option ℕ) (deleted : Option Bool) (invalid : Option Bool) (hashes : Option (List (List ℕ))) (target : Option (List ℕ)) (block_size : Kind → Bool → Option ℕ) → Option Entry
by_default name kind modified_s modified_by counters sequence size modified_ns deleted invalid hashes target block_size =
    name >>= λ x_name. kind >>= λ x_kind. modified_s >>= λ x_modified_s. modified_by >>= λ x_modified_by. counters >>= λ x_counters. sequence >>= λ x_sequence. size >>= λ x_size. modified_ns >>= λ x_modified_ns. deleted >>= λ x_deleted. invalid >>= λ x_invalid. block_size x_kind x_deleted >>= λ x_block_size. hashes >>= λ x_hashes. target >>= λ x_target. Some (record {
      name = x_name;
      kind = x_kind;
      size = x_size;
      modified_s = x_modified_s;
      modified_ns = x_modified_ns;
      modified_by = x_modified_by;
      deleted = x_deleted;
      invalid = x_invalid;
      no_permissions = true;
      version = x_counters;
      sequence = x_sequence;
      block_size = x_block_size;
      blocks = blocks_from x_size 0 x_hashes;
      target = x_target;
    })

-- what stands at its member was read
size_read : (name : Option (List ℕ)) (kind : Option Kind) (modified_s : Option ℤ) (modified_by : Option ℕ) (counters : Option (List (ℕ × ℕ))) (sequence : Option ℕ) (size : Option ℕ) (modified_ns : Option ℕ) (deleted : Option Bool) (invalid : Option Bool) (hashes : Option (List (List ℕ))) (target : Option (List ℕ)) (read : Option ℕ)
    → by_optional name kind modified_s modified_by counters sequence size modified_ns deleted invalid hashes target (option_map Some read) ≡ by_default name kind modified_s modified_by counters sequence size modified_ns deleted invalid hashes target (λ kind deleted. read)
size_read name kind modified_s modified_by counters sequence size modified_ns deleted invalid hashes target None = refl
size_read name kind modified_s modified_by counters sequence size modified_ns deleted invalid hashes target (Some said) = refl

size_found : (name : Option (List ℕ)) (kind : Option Kind) (modified_s : Option ℤ) (modified_by : Option ℕ) (counters : Option (List (ℕ × ℕ))) (sequence : Option ℕ) (size : Option ℕ) (modified_ns : Option ℕ) (deleted : Option Bool) (invalid : Option Bool) (hashes : Option (List (List ℕ))) (target : Option (List ℕ)) (found : Option Data)
    → by_optional name kind modified_s modified_by counters sequence size modified_ns deleted invalid hashes target (read_optional (read_number 0 4294967295) found)
    ≡ by_default name kind modified_s modified_by counters sequence size modified_ns deleted invalid hashes target (λ kind deleted. read_or (read_number 0 4294967295) (default_block_size kind deleted) found)
size_found name kind modified_s modified_by counters sequence size modified_ns deleted invalid hashes target None = refl
size_found name kind modified_s modified_by counters sequence size modified_ns deleted invalid hashes target (Some d) = size_read name kind modified_s modified_by counters sequence size modified_ns deleted invalid hashes target (read_number 0 4294967295 d)

-- ---- all members

-- whether the counters are a version vector may be asked first
asked_last : (s : RecordSlots) → told_by record_of (record_things s)
    ≡ told_as entry_of (both (due s.name) (both (due s.kind) (both (due s.modified_s) (both (due s.modified_by) (both (vector_told (due s.counters)) (both (due s.sequence) (both (due_or 0 s.size) (both (due_or 0 s.modified_ns) (both (due_or false s.deleted) (both (due_or false s.invalid) (both (optional s.block_size) (both (due_or [] s.hashes) (due_or [] s.target)))))))))))))
asked_last s =
    fifth_asked_last entry_of (due s.name) (due s.kind) (due s.modified_s) (due s.modified_by) (due s.counters)
    (both (due s.sequence) (both (due_or 0 s.size) (both (due_or 0 s.modified_ns) (both (due_or false s.deleted) (both (due_or false s.invalid) (both (optional s.block_size) (both (due_or [] s.hashes) (due_or [] s.target))))))))

things_are : (version : DocVersion) (d : Data)
    → told_by record_of (record_things (record_slots version (λ name. get name d))) ≡ judged ((has_member (codes "name") is_text d) && ((has_member (codes "type") is_whole d) && ((has_member (codes "modified_s") is_whole d) && ((has_member (codes "modified_by") is_whole d) && ((has_member (codes "version") (is_list is_pair) d) && ((has_member (codes "sequence") is_whole d) && ((may_have_member (codes "size") is_whole d) && ((may_have_member (codes "modified_ns") is_whole d) && ((may_have_member (codes "deleted") is_flag d) && ((may_have_member (codes "invalid") is_flag d) && ((may_have_member (codes "block_size") is_whole d) && ((may_have_member (codes "blocks") (is_list is_text) d) && (may_have_member (codes "target") is_text d))))))))))))) (read_record version d)
unfolding read_record
things_are version d =
    asked_last (record_slots version (λ name. get name d))
    ∙ ap (told_as entry_of) (ap₂ both (due_is (codes "name") is_text read_name d) (ap₂ both (due_is (codes "type") is_whole read_kind d) (ap₂ both (due_is (codes "modified_s") is_whole read_signed d) (ap₂ both (due_is (codes "modified_by") is_whole (read_number 1 greatest_id) d) (ap₂ both (ap vector_told (due_is (codes "version") (is_list is_pair) (read_list read_pair) d) ∙ vector_is (has_member (codes "version") (is_list is_pair) d) (get (codes "version") d)) (ap₂ both (due_is (codes "sequence") is_whole (read_number 0 9223372036854775807) d) (ap₂ both (due_or_is 0 (codes "size") is_whole (read_number 0 (most_file_bytes version)) d) (ap₂ both (due_or_is 0 (codes "modified_ns") is_whole (read_number 0 MAX_NANOSECONDS) d) (ap₂ both (due_or_is false (codes "deleted") is_flag read_flag d) (ap₂ both (due_or_is false (codes "invalid") is_flag read_flag d) (ap₂ both (optional_is (codes "block_size") is_whole (read_number 0 4294967295) d) (ap₂ both (due_or_is [] (codes "blocks") (is_list is_text) (read_list read_hash) d) (due_or_is [] (codes "target") is_text read_target d) ∙ both_is (may_have_member (codes "blocks") (is_list is_text) d) (may_have_member (codes "target") is_text d) (read_member_or (codes "blocks") (read_list read_hash) [] d) (read_member_or (codes "target") read_target [] d)) ∙ both_is (may_have_member (codes "block_size") is_whole d) ((may_have_member (codes "blocks") (is_list is_text) d) && (may_have_member (codes "target") is_text d)) (read_optional (read_number 0 4294967295) (get (codes "block_size") d)) (pair (read_member_or (codes "blocks") (read_list read_hash) [] d) (read_member_or (codes "target") read_target [] d))) ∙ both_is (may_have_member (codes "invalid") is_flag d) ((may_have_member (codes "block_size") is_whole d) && ((may_have_member (codes "blocks") (is_list is_text) d) && (may_have_member (codes "target") is_text d))) (read_member_or (codes "invalid") read_flag false d) (pair (read_optional (read_number 0 4294967295) (get (codes "block_size") d)) (pair (read_member_or (codes "blocks") (read_list read_hash) [] d) (read_member_or (codes "target") read_target [] d)))) ∙ both_is (may_have_member (codes "deleted") is_flag d) ((may_have_member (codes "invalid") is_flag d) && ((may_have_member (codes "block_size") is_whole d) && ((may_have_member (codes "blocks") (is_list is_text) d) && (may_have_member (codes "target") is_text d)))) (read_member_or (codes "deleted") read_flag false d) (pair (read_member_or (codes "invalid") read_flag false d) (pair (read_optional (read_number 0 4294967295) (get (codes "block_size") d)) (pair (read_member_or (codes "blocks") (read_list read_hash) [] d) (read_member_or (codes "target") read_target [] d))))) ∙ both_is (may_have_member (codes "modified_ns") is_whole d) ((may_have_member (codes "deleted") is_flag d) && ((may_have_member (codes "invalid") is_flag d) && ((may_have_member (codes "block_size") is_whole d) && ((may_have_member (codes "blocks") (is_list is_text) d) && (may_have_member (codes "target") is_text d))))) (read_member_or (codes "modified_ns") (read_number 0 MAX_NANOSECONDS) 0 d) (pair (read_member_or (codes "deleted") read_flag false d) (pair (read_member_or (codes "invalid") read_flag false d) (pair (read_optional (read_number 0 4294967295) (get (codes "block_size") d)) (pair (read_member_or (codes "blocks") (read_list read_hash) [] d) (read_member_or (codes "target") read_target [] d)))))) ∙ both_is (may_have_member (codes "size") is_whole d) ((may_have_member (codes "modified_ns") is_whole d) && ((may_have_member (codes "deleted") is_flag d) && ((may_have_member (codes "invalid") is_flag d) && ((may_have_member (codes "block_size") is_whole d) && ((may_have_member (codes "blocks") (is_list is_text) d) && (may_have_member (codes "target") is_text d)))))) (read_member_or (codes "size") (read_number 0 (most_file_bytes version)) 0 d) (pair (read_member_or (codes "modified_ns") (read_number 0 MAX_NANOSECONDS) 0 d) (pair (read_member_or (codes "deleted") read_flag false d) (pair (read_member_or (codes "invalid") read_flag false d) (pair (read_optional (read_number 0 4294967295) (get (codes "block_size") d)) (pair (read_member_or (codes "blocks") (read_list read_hash) [] d) (read_member_or (codes "target") read_target [] d))))))) ∙ both_is (has_member (codes "sequence") is_whole d) ((may_have_member (codes "size") is_whole d) && ((may_have_member (codes "modified_ns") is_whole d) && ((may_have_member (codes "deleted") is_flag d) && ((may_have_member (codes "invalid") is_flag d) && ((may_have_member (codes "block_size") is_whole d) && ((may_have_member (codes "blocks") (is_list is_text) d) && (may_have_member (codes "target") is_text d))))))) (read_member (codes "sequence") (read_number 0 9223372036854775807) d) (pair (read_member_or (codes "size") (read_number 0 (most_file_bytes version)) 0 d) (pair (read_member_or (codes "modified_ns") (read_number 0 MAX_NANOSECONDS) 0 d) (pair (read_member_or (codes "deleted") read_flag false d) (pair (read_member_or (codes "invalid") read_flag false d) (pair (read_optional (read_number 0 4294967295) (get (codes "block_size") d)) (pair (read_member_or (codes "blocks") (read_list read_hash) [] d) (read_member_or (codes "target") read_target [] d)))))))) ∙ both_is (has_member (codes "version") (is_list is_pair) d) ((has_member (codes "sequence") is_whole d) && ((may_have_member (codes "size") is_whole d) && ((may_have_member (codes "modified_ns") is_whole d) && ((may_have_member (codes "deleted") is_flag d) && ((may_have_member (codes "invalid") is_flag d) && ((may_have_member (codes "block_size") is_whole d) && ((may_have_member (codes "blocks") (is_list is_text) d) && (may_have_member (codes "target") is_text d)))))))) (read_member (codes "version") read_version d) (pair (read_member (codes "sequence") (read_number 0 9223372036854775807) d) (pair (read_member_or (codes "size") (read_number 0 (most_file_bytes version)) 0 d) (pair (read_member_or (codes "modified_ns") (read_number 0 MAX_NANOSECONDS) 0 d) (pair (read_member_or (codes "deleted") read_flag false d) (pair (read_member_or (codes "invalid") read_flag false d) (pair (read_optional (read_number 0 4294967295) (get (codes "block_size") d)) (pair (read_member_or (codes "blocks") (read_list read_hash) [] d) (read_member_or (codes "target") read_target [] d))))))))) ∙ both_is (has_member (codes "modified_by") is_whole d) ((has_member (codes "version") (is_list is_pair) d) && ((has_member (codes "sequence") is_whole d) && ((may_have_member (codes "size") is_whole d) && ((may_have_member (codes "modified_ns") is_whole d) && ((may_have_member (codes "deleted") is_flag d) && ((may_have_member (codes "invalid") is_flag d) && ((may_have_member (codes "block_size") is_whole d) && ((may_have_member (codes "blocks") (is_list is_text) d) && (may_have_member (codes "target") is_text d))))))))) (read_member (codes "modified_by") (read_number 1 greatest_id) d) (pair (read_member (codes "version") read_version d) (pair (read_member (codes "sequence") (read_number 0 9223372036854775807) d) (pair (read_member_or (codes "size") (read_number 0 (most_file_bytes version)) 0 d) (pair (read_member_or (codes "modified_ns") (read_number 0 MAX_NANOSECONDS) 0 d) (pair (read_member_or (codes "deleted") read_flag false d) (pair (read_member_or (codes "invalid") read_flag false d) (pair (read_optional (read_number 0 4294967295) (get (codes "block_size") d)) (pair (read_member_or (codes "blocks") (read_list read_hash) [] d) (read_member_or (codes "target") read_target [] d)))))))))) ∙ both_is (has_member (codes "modified_s") is_whole d) ((has_member (codes "modified_by") is_whole d) && ((has_member (codes "version") (is_list is_pair) d) && ((has_member (codes "sequence") is_whole d) && ((may_have_member (codes "size") is_whole d) && ((may_have_member (codes "modified_ns") is_whole d) && ((may_have_member (codes "deleted") is_flag d) && ((may_have_member (codes "invalid") is_flag d) && ((may_have_member (codes "block_size") is_whole d) && ((may_have_member (codes "blocks") (is_list is_text) d) && (may_have_member (codes "target") is_text d)))))))))) (read_member (codes "modified_s") read_signed d) (pair (read_member (codes "modified_by") (read_number 1 greatest_id) d) (pair (read_member (codes "version") read_version d) (pair (read_member (codes "sequence") (read_number 0 9223372036854775807) d) (pair (read_member_or (codes "size") (read_number 0 (most_file_bytes version)) 0 d) (pair (read_member_or (codes "modified_ns") (read_number 0 MAX_NANOSECONDS) 0 d) (pair (read_member_or (codes "deleted") read_flag false d) (pair (read_member_or (codes "invalid") read_flag false d) (pair (read_optional (read_number 0 4294967295) (get (codes "block_size") d)) (pair (read_member_or (codes "blocks") (read_list read_hash) [] d) (read_member_or (codes "target") read_target [] d))))))))))) ∙ both_is (has_member (codes "type") is_whole d) ((has_member (codes "modified_s") is_whole d) && ((has_member (codes "modified_by") is_whole d) && ((has_member (codes "version") (is_list is_pair) d) && ((has_member (codes "sequence") is_whole d) && ((may_have_member (codes "size") is_whole d) && ((may_have_member (codes "modified_ns") is_whole d) && ((may_have_member (codes "deleted") is_flag d) && ((may_have_member (codes "invalid") is_flag d) && ((may_have_member (codes "block_size") is_whole d) && ((may_have_member (codes "blocks") (is_list is_text) d) && (may_have_member (codes "target") is_text d))))))))))) (read_member (codes "type") read_kind d) (pair (read_member (codes "modified_s") read_signed d) (pair (read_member (codes "modified_by") (read_number 1 greatest_id) d) (pair (read_member (codes "version") read_version d) (pair (read_member (codes "sequence") (read_number 0 9223372036854775807) d) (pair (read_member_or (codes "size") (read_number 0 (most_file_bytes version)) 0 d) (pair (read_member_or (codes "modified_ns") (read_number 0 MAX_NANOSECONDS) 0 d) (pair (read_member_or (codes "deleted") read_flag false d) (pair (read_member_or (codes "invalid") read_flag false d) (pair (read_optional (read_number 0 4294967295) (get (codes "block_size") d)) (pair (read_member_or (codes "blocks") (read_list read_hash) [] d) (read_member_or (codes "target") read_target [] d)))))))))))) ∙ both_is (has_member (codes "name") is_text d) ((has_member (codes "type") is_whole d) && ((has_member (codes "modified_s") is_whole d) && ((has_member (codes "modified_by") is_whole d) && ((has_member (codes "version") (is_list is_pair) d) && ((has_member (codes "sequence") is_whole d) && ((may_have_member (codes "size") is_whole d) && ((may_have_member (codes "modified_ns") is_whole d) && ((may_have_member (codes "deleted") is_flag d) && ((may_have_member (codes "invalid") is_flag d) && ((may_have_member (codes "block_size") is_whole d) && ((may_have_member (codes "blocks") (is_list is_text) d) && (may_have_member (codes "target") is_text d)))))))))))) (read_member (codes "name") read_name d) (pair (read_member (codes "type") read_kind d) (pair (read_member (codes "modified_s") read_signed d) (pair (read_member (codes "modified_by") (read_number 1 greatest_id) d) (pair (read_member (codes "version") read_version d) (pair (read_member (codes "sequence") (read_number 0 9223372036854775807) d) (pair (read_member_or (codes "size") (read_number 0 (most_file_bytes version)) 0 d) (pair (read_member_or (codes "modified_ns") (read_number 0 MAX_NANOSECONDS) 0 d) (pair (read_member_or (codes "deleted") read_flag false d) (pair (read_member_or (codes "invalid") read_flag false d) (pair (read_optional (read_number 0 4294967295) (get (codes "block_size") d)) (pair (read_member_or (codes "blocks") (read_list read_hash) [] d) (read_member_or (codes "target") read_target [] d)))))))))))))
    ∙ told_as_is entry_of ((has_member (codes "name") is_text d) && ((has_member (codes "type") is_whole d) && ((has_member (codes "modified_s") is_whole d) && ((has_member (codes "modified_by") is_whole d) && ((has_member (codes "version") (is_list is_pair) d) && ((has_member (codes "sequence") is_whole d) && ((may_have_member (codes "size") is_whole d) && ((may_have_member (codes "modified_ns") is_whole d) && ((may_have_member (codes "deleted") is_flag d) && ((may_have_member (codes "invalid") is_flag d) && ((may_have_member (codes "block_size") is_whole d) && ((may_have_member (codes "blocks") (is_list is_text) d) && (may_have_member (codes "target") is_text d))))))))))))) (pair (read_member (codes "name") read_name d) (pair (read_member (codes "type") read_kind d) (pair (read_member (codes "modified_s") read_signed d) (pair (read_member (codes "modified_by") (read_number 1 greatest_id) d) (pair (read_member (codes "version") read_version d) (pair (read_member (codes "sequence") (read_number 0 9223372036854775807) d) (pair (read_member_or (codes "size") (read_number 0 (most_file_bytes version)) 0 d) (pair (read_member_or (codes "modified_ns") (read_number 0 MAX_NANOSECONDS) 0 d) (pair (read_member_or (codes "deleted") read_flag false d) (pair (read_member_or (codes "invalid") read_flag false d) (pair (read_optional (read_number 0 4294967295) (get (codes "block_size") d)) (pair (read_member_or (codes "blocks") (read_list read_hash) [] d) (read_member_or (codes "target") read_target [] d)))))))))))))
    ∙ ap (judged ((has_member (codes "name") is_text d) && ((has_member (codes "type") is_whole d) && ((has_member (codes "modified_s") is_whole d) && ((has_member (codes "modified_by") is_whole d) && ((has_member (codes "version") (is_list is_pair) d) && ((has_member (codes "sequence") is_whole d) && ((may_have_member (codes "size") is_whole d) && ((may_have_member (codes "modified_ns") is_whole d) && ((may_have_member (codes "deleted") is_flag d) && ((may_have_member (codes "invalid") is_flag d) && ((may_have_member (codes "block_size") is_whole d) && ((may_have_member (codes "blocks") (is_list is_text) d) && (may_have_member (codes "target") is_text d))))))))))))))
    (read_13 entry_of (read_member (codes "name") read_name d) (read_member (codes "type") read_kind d) (read_member (codes "modified_s") read_signed d) (read_member (codes "modified_by") (read_number 1 greatest_id) d) (read_member (codes "version") read_version d) (read_member (codes "sequence") (read_number 0 9223372036854775807) d) (read_member_or (codes "size") (read_number 0 (most_file_bytes version)) 0 d) (read_member_or (codes "modified_ns") (read_number 0 MAX_NANOSECONDS) 0 d) (read_member_or (codes "deleted") read_flag false d) (read_member_or (codes "invalid") read_flag false d) (read_optional (read_number 0 4294967295) (get (codes "block_size") d)) (read_member_or (codes "blocks") (read_list read_hash) [] d) (read_member_or (codes "target") read_target [] d)
    ∙ size_found (read_member (codes "name") read_name d) (read_member (codes "type") read_kind d) (read_member (codes "modified_s") read_signed d) (read_member (codes "modified_by") (read_number 1 greatest_id) d) (read_member (codes "version") read_version d) (read_member (codes "sequence") (read_number 0 9223372036854775807) d) (read_member_or (codes "size") (read_number 0 (most_file_bytes version)) 0 d) (read_member_or (codes "modified_ns") (read_number 0 MAX_NANOSECONDS) 0 d) (read_member_or (codes "deleted") read_flag false d) (read_member_or (codes "invalid") read_flag false d) (read_member_or (codes "blocks") (read_list read_hash) [] d) (read_member_or (codes "target") read_target [] d) (get (codes "block_size") d))

-- what is asked of the members that a record has
abbrev has_all : Data → Bool
has_all d = ((has_member (codes "name") is_text d) && ((has_member (codes "type") is_whole d) && ((has_member (codes "modified_s") is_whole d) && ((has_member (codes "modified_by") is_whole d) && ((has_member (codes "version") (is_list is_pair) d) && ((has_member (codes "sequence") is_whole d) && ((may_have_member (codes "size") is_whole d) && ((may_have_member (codes "modified_ns") is_whole d) && ((may_have_member (codes "deleted") is_flag d) && ((may_have_member (codes "invalid") is_flag d) && ((may_have_member (codes "block_size") is_whole d) && ((may_have_member (codes "blocks") (is_list is_text) d) && (may_have_member (codes "target") is_text d)))))))))))))

members_are : (version : DocVersion) (d : Data) → record_told version (record_slots version (λ name. get name d)) ≡ judged (has_all d && has_due_block_size version d) (read_record version d)
members_are version d =
    ap₂ (λ also told. if also then told else Err Shape) (block_size_is version d) (things_are version d)
    ∙ if_also (has_due_block_size version d) (has_all d) (read_record version d)
    ∙ ap (λ shape. judged shape (read_record version d)) (and_comm (has_due_block_size version d) (has_all d))

-- what has other members, or is no object, is no record
pub no_record : (version : DocVersion) (d : Data) → has_only record_names d ≡ false → Err Shape ≡ judged (is_record version d) (read_record version d)
unfolding is_record has_record_members
no_record version d strange = sym (ap (λ only. judged ((only && has_all d) && has_due_block_size version d) (read_record version d)) strange)

pub record_is : (version : DocVersion) (slots : RecordSlots) (d : Data) → AreFilled record_names (record_slots version) true slots d → record_told version slots ≡ judged (is_record version d) (read_record version d)
unfolding is_record has_record_members
record_is version slots d (only, known) =
    ap (record_told version) known ∙ members_are version d
    ∙ sym (ap (λ only. judged ((only && has_all d) && has_due_block_size version d) (read_record version d)) only)
