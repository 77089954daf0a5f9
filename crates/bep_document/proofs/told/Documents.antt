-- What is told of the members of a check document is what is told of it.
use Rattle.std.proofs.Common.{◌≡◌, ◌∙◌, ◌&&◌, Bool, true, Option, Some, None, Err, sym, ap, ap₂}
use Rattle.std.specs.Prelude.{codes, if◌then◌else◌}
use Rattle.serde_json.specs.Data.{Data}
use Rattle.serde_json.specs.Find.{get}
use Rattle.bep_json.specs.declared.told.Misread.TheVariants.{Shape}
use Rattle.bep_json.specs.declared.version.DocVersion.{DocVersion}
use Rattle.bep_json.specs.Lists.{is_list, read_list}
use Rattle.bep_json.specs.Numbers.{is_whole, read_number}
use Rattle.bep_json.specs.Reading.{read_member}
use Rattle.bep_json.specs.Tree.{has_member}
use Rattle.bep_json.specs.Taking.{judged, Fills, slot, due, both, told_as}
use Rattle.bep_json.proofs.TakingFacts.{due_is, noted_is, stands, as_if_there, both_is, told_as_is, pair, read_2}
use Rattle.bep_document.specs.declared.take.documents.CheckSlots.{CheckSlots}
use Rattle.bep_document.specs.declared.take.documents.CutSlot.{CutSlot}
use Rattle.bep_document.specs.inner.Documents.{document_names, check_slots, check_of, check_told, cut_slot, cut_slot_told}
use Rattle.bep_document.specs.inner.Texts.{cut_in_told}
use Rattle.bep_document.specs.read.Checks.{is_cut, read_cut, is_check, read_check_parts}
use Rattle.bep_document.specs.read.Folders.{is_row, read_row}

module _ (version : DocVersion) (d : Data) where
  abbrev others : Bool
  others = has_member (codes "cut") (is_cut version) d && has_member (codes "certificate") (is_list (is_row version)) d

  abbrev all : Bool
  all = has_member (codes "version") is_whole d && others

  check_members : check_told version (Some (check_slots version (λ name. get name d))) ≡ judged all (read_check_parts version d)
  unfolding read_check_parts
  check_members =
      let cut = read_member (codes "cut") (read_cut version) d in
      let rows = read_member (codes "certificate") (read_list (read_row version)) d in
      ap (told_as (check_of version))
      (ap₂ both (noted_is is_whole (read_number 1 2) (get (codes "version") d))
      (ap₂ both (due_is (codes "cut") (is_cut version) (read_cut version) d) (due_is (codes "certificate") (is_list (is_row version)) (read_list (read_row version)) d)
      ∙ both_is (has_member (codes "cut") (is_cut version) d) (has_member (codes "certificate") (is_list (is_row version)) d) cut rows)
      ∙ both_is (has_member (codes "version") is_whole d) others (stands (get (codes "version") d)) (pair cut rows))
      ∙ told_as_is (check_of version) all (pair (stands (get (codes "version") d)) (pair cut rows))
      ∙ as_if_there is_whole (get (codes "version") d) others (check_of version) (pair cut rows)
      ∙ ap (judged all) (read_2 (λ t. check_of version (true, t)) cut rows)

pub check_is : (version : DocVersion) (slots : Option CheckSlots) (d : Data) → Fills document_names (check_slots version) slots d → check_told version slots ≡ judged (is_check version d) (read_check_parts version d)
unfolding is_check
check_is version None d strange = sym (ap (λ only. judged (only && all version d) (read_check_parts version d)) strange)
check_is version (Some slots) d (only, known) =
    ap (λ s. check_told version (Some s)) known ∙ check_members version d ∙ sym (ap (λ only. judged (only && all version d) (read_check_parts version d)) only)

pub cut_slot_is : (version : DocVersion) (slots : Option CutSlot) (d : Data) → Fills document_names (cut_slot version) slots d → cut_slot_told slots ≡ cut_in_told version d
cut_slot_is version None d strange = sym (ap (λ only. if only then due (slot (is_cut version) (read_cut version) (get (codes "cut") d)) else Err Shape) strange)
cut_slot_is version (Some slots) d (only, known) =
    ap (λ s. cut_slot_told (Some s)) known ∙ sym (ap (λ only. if only then due (slot (is_cut version) (read_cut version) (get (codes "cut") d)) else Err Shape) only)
