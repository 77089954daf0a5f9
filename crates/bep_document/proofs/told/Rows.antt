-- What is told of the members of a row is what is told of it.
use Rattle.std.proofs.Common.{◌≡◌, ◌∙◌, ◌&&◌, Option, Some, None, sym, ap, ap₂}
use Rattle.std.specs.Prelude.{codes}
use Rattle.serde_json.specs.Data.{Data}
use Rattle.serde_json.specs.Find.{get}
use Rattle.bep_json.specs.declared.version.DocVersion.{DocVersion}
use Rattle.bep_json.specs.Reading.{read_member}
use Rattle.bep_json.specs.Tree.{has_member}
use Rattle.bep_json.specs.Taking.{judged, Fills, both, told_as}
use Rattle.bep_json.proofs.TakingFacts.{due_is, both_is, told_as_is, pair, read_3}
use Rattle.bep_document.specs.declared.take.rows.RowSlots.{RowSlots}
use Rattle.bep_document.specs.inner.Rows.{row_names, row_slots, row_of, row_told}
use Rattle.bep_json.specs.Records.{is_record, read_record}
use Rattle.bep_json.specs.Numbers.{is_whole, read_number, greatest_id}
use Rattle.bep_json.specs.Texts.{is_text, read_folder_name}
use Rattle.bep_document.specs.read.Folders.{is_row, read_row}

-- of the members that a row has
row_members : (version : DocVersion) (d : Data) → row_told (Some (row_slots version (λ name. get name d))) ≡ judged ((has_member (codes "folder") (is_text) d) && ((has_member (codes "device") (is_whole) d) && (has_member (codes "record") (is_record version) d))) (read_row version d)
unfolding read_row
row_members version d =
    ap (told_as row_of) (ap₂ both (due_is (codes "folder") (is_text) (read_folder_name) d) (ap₂ both (due_is (codes "device") (is_whole) (read_number 1 greatest_id) d) (due_is (codes "record") (is_record version) (read_record version) d) ∙ both_is (has_member (codes "device") (is_whole) d) (has_member (codes "record") (is_record version) d) (read_member (codes "device") (read_number 1 greatest_id) d) (read_member (codes "record") (read_record version) d)) ∙ both_is (has_member (codes "folder") (is_text) d) ((has_member (codes "device") (is_whole) d) && (has_member (codes "record") (is_record version) d)) (read_member (codes "folder") (read_folder_name) d) (pair (read_member (codes "device") (read_number 1 greatest_id) d) (read_member (codes "record") (read_record version) d)))
    ∙ told_as_is row_of ((has_member (codes "folder") (is_text) d) && ((has_member (codes "device") (is_whole) d) && (has_member (codes "record") (is_record version) d))) (pair (read_member (codes "folder") (read_folder_name) d) (pair (read_member (codes "device") (read_number 1 greatest_id) d) (read_member (codes "record") (read_record version) d)))
    ∙ ap (judged ((has_member (codes "folder") (is_text) d) && ((has_member (codes "device") (is_whole) d) && (has_member (codes "record") (is_record version) d)))) (read_3 row_of (read_member (codes "folder") (read_folder_name) d) (read_member (codes "device") (read_number 1 greatest_id) d) (read_member (codes "record") (read_record version) d))

pub row_is : (version : DocVersion) (slots : Option RowSlots) (d : Data) → Fills row_names (row_slots version) slots d → row_told slots ≡ judged (is_row version d) (read_row version d)
unfolding is_row
row_is version None d strange = sym (ap (λ only. judged (only && ((has_member (codes "folder") (is_text) d) && ((has_member (codes "device") (is_whole) d) && (has_member (codes "record") (is_record version) d)))) (read_row version d)) strange)
row_is version (Some slots) d (only, known) = ap (λ s. row_told (Some s)) known ∙ row_members version d ∙ sym (ap (λ only. judged (only && ((has_member (codes "folder") (is_text) d) && ((has_member (codes "device") (is_whole) d) && (has_member (codes "record") (is_record version) d)))) (read_row version d)) only)
