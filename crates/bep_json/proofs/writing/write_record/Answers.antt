use Rattle.std.proofs.Common.{List, map, refl, sym, ap, subst, ◌∙◌, rules}
use mir.Syntax.{w64}
use mir.Val.{SFits}
use Rattle.std.proofs.lemmas.Int.{to_z-of_z}
use Rattle.serde_json.specs.Data.{string}
use Rattle.bep_record.specs.Entry.{IsWellFormed}
use Rattle.bep_record.specs.declared.block.Block.{Block}
use Rattle.bep_record.specs.declared.entry.Entry.{Entry}
use Rattle.bep_json.specs.Added.{Adds}
use Rattle.bep_json.specs.Back.{IsRecordBack}
use Rattle.bep_json.specs.Written.{whole, signed, hashes_written, record_written}
use Rattle.bep_json.proofs.AddedFacts.{keyed, member_as, member_more, no_more_members, object_added}
use Rattle.bep_json.proofs.RecordSays.{AreRead, AreTyped, hashes_say, record_says}
use Rattle.bep_json.proofs.writing.write_record.Goals as goal

pub returns-clause-value : goal.returns-clause-value
unfolding record_written
returns-clause-value c =
    let entry = c.entry-entry.result.now in
    let fits : SFits w64 entry.modified_s = search rules in
    subst (λ (e : Entry). Adds (record_written e) c.args.out.now c.end_object.new.self) c.entry-entry.ensures.value
    (object_added refl c.in_ok-begin_object.ensures
    (member_as (ap whole c.from.ensures) c.in_ok-add_number.ensures
    (member_as (ap (λ (blocks : List Block). hashes_written (map (λ b. b.hash) blocks)) c.as_slice.ensures) (keyed c.in_ok-key.ensures c.in_ok-write_hashes.ensures.value)
    (member_more c.in_ok-add_flag.ensures
    (member_more c.in_ok-add_flag-2.ensures
    (member_as (ap whole c.number.ensures.value) c.in_ok-add_number-2.ensures
    (member_as (ap whole c.from-2.ensures) c.in_ok-add_number-3.ensures
    (member_as (ap signed (to_z-of_z w64 entry.modified_s fits)) c.in_ok-add_signed.ensures
    (member_as (ap string c.as_str.ensures.value) c.in_ok-add_text.ensures
    (member_more c.in_ok-add_number-4.ensures
    (member_more c.in_ok-add_number-5.ensures
    (member_as (ap string c.as_str-2.ensures.value) c.in_ok-add_text-2.ensures
    (member_as (ap whole (c.from-3.ensures ∙ c.number_of.ensures)) c.in_ok-add_number-6.ensures
    (member_more (keyed c.in_ok-key-2.ensures c.in_ok-write_version.ensures)
    (no_more_members c.in_ok-end_object.ensures)))))))))))))))

pub returns-clause-back : goal.returns-clause-back
returns-clause-back c =
    let entry = c.entry-entry.result.now in
    let same = c.entry-entry.ensures.value in
    let told = c.fields_are_told.ensures in
    let typed : AreTyped entry = record {
      name = told.name;
      target = told.target;
      modified_s = told.modified_s;
      modified_by = told.modified_by;
      version = told.version;
      hashes = hashes_say entry.blocks (subst AreRead c.as_slice.ensures c.in_ok-write_hashes.ensures.back);
    } in
    subst (λ (e : Entry). IsRecordBack e (record_written e)) same
    (record_says entry (subst IsWellFormed (sym same) c.entry-entry.ensures.well_formed) typed)
