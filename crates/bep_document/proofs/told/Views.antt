-- What is told of the members of a view is what is told of it.
use Rattle.std.proofs.Common.{◌≡◌, ◌∙◌, ◌&&◌, Option, Some, None, sym, ap, ap₂}
use Rattle.std.specs.Prelude.{codes}
use Rattle.serde_json.specs.Data.{Data}
use Rattle.serde_json.specs.Find.{get}
use Rattle.bep_json.specs.declared.version.DocVersion.{DocVersion}
use Rattle.bep_json.specs.Reading.{read_member}
use Rattle.bep_json.specs.Tree.{has_member}
use Rattle.bep_json.specs.Taking.{judged, Fills, both, told_as}
use Rattle.bep_json.proofs.TakingFacts.{due_is, both_is, told_as_is, pair, read_4}
use Rattle.bep_document.specs.declared.take.views.ViewSlots.{ViewSlots}
use Rattle.bep_document.specs.inner.Views.{view_names, view_slots, view_of, view_told}
use Rattle.bep_json.specs.Records.{is_record, read_record}
use Rattle.bep_json.specs.Lists.{is_list}
use Rattle.bep_document.specs.read.Few.{read_few}
use Rattle.bep_json.specs.Numbers.{is_whole, read_number, greatest_id}
use Rattle.bep_index.specs.declared.limits.TheConstants.{MAX_NAMES, MAX_SEQUENCE}
use Rattle.bep_document.specs.read.Views.{is_view, read_view}

-- of the members that a view has
view_members : (version : DocVersion) (d : Data) → view_told (Some (view_slots version (λ name. get name d))) ≡ judged ((has_member (codes "of") (is_whole) d) && ((has_member (codes "index_id") (is_whole) d) && ((has_member (codes "max") (is_whole) d) && (has_member (codes "records") (is_list (is_record version)) d)))) (read_view version d)
unfolding read_view
view_members version d =
    ap (told_as view_of) (ap₂ both (due_is (codes "of") (is_whole) (read_number 1 greatest_id) d) (ap₂ both (due_is (codes "index_id") (is_whole) (read_number 0 greatest_id) d) (ap₂ both (due_is (codes "max") (is_whole) (read_number 0 MAX_SEQUENCE) d) (due_is (codes "records") (is_list (is_record version)) (read_few MAX_NAMES (read_record version)) d) ∙ both_is (has_member (codes "max") (is_whole) d) (has_member (codes "records") (is_list (is_record version)) d) (read_member (codes "max") (read_number 0 MAX_SEQUENCE) d) (read_member (codes "records") (read_few MAX_NAMES (read_record version)) d)) ∙ both_is (has_member (codes "index_id") (is_whole) d) ((has_member (codes "max") (is_whole) d) && (has_member (codes "records") (is_list (is_record version)) d)) (read_member (codes "index_id") (read_number 0 greatest_id) d) (pair (read_member (codes "max") (read_number 0 MAX_SEQUENCE) d) (read_member (codes "records") (read_few MAX_NAMES (read_record version)) d))) ∙ both_is (has_member (codes "of") (is_whole) d) ((has_member (codes "index_id") (is_whole) d) && ((has_member (codes "max") (is_whole) d) && (has_member (codes "records") (is_list (is_record version)) d))) (read_member (codes "of") (read_number 1 greatest_id) d) (pair (read_member (codes "index_id") (read_number 0 greatest_id) d) (pair (read_member (codes "max") (read_number 0 MAX_SEQUENCE) d) (read_member (codes "records") (read_few MAX_NAMES (read_record version)) d))))
    ∙ told_as_is view_of ((has_member (codes "of") (is_whole) d) && ((has_member (codes "index_id") (is_whole) d) && ((has_member (codes "max") (is_whole) d) && (has_member (codes "records") (is_list (is_record version)) d)))) (pair (read_member (codes "of") (read_number 1 greatest_id) d) (pair (read_member (codes "index_id") (read_number 0 greatest_id) d) (pair (read_member (codes "max") (read_number 0 MAX_SEQUENCE) d) (read_member (codes "records") (read_few MAX_NAMES (read_record version)) d))))
    ∙ ap (judged ((has_member (codes "of") (is_whole) d) && ((has_member (codes "index_id") (is_whole) d) && ((has_member (codes "max") (is_whole) d) && (has_member (codes "records") (is_list (is_record version)) d))))) (read_4 view_of (read_member (codes "of") (read_number 1 greatest_id) d) (read_member (codes "index_id") (read_number 0 greatest_id) d) (read_member (codes "max") (read_number 0 MAX_SEQUENCE) d) (read_member (codes "records") (read_few MAX_NAMES (read_record version)) d))

pub view_is : (version : DocVersion) (slots : Option ViewSlots) (d : Data) → Fills view_names (view_slots version) slots d → view_told slots ≡ judged (is_view version d) (read_view version d)
unfolding is_view
view_is version None d strange = sym (ap (λ only. judged (only && ((has_member (codes "of") (is_whole) d) && ((has_member (codes "index_id") (is_whole) d) && ((has_member (codes "max") (is_whole) d) && (has_member (codes "records") (is_list (is_record version)) d))))) (read_view version d)) strange)
view_is version (Some slots) d (only, known) = ap (λ s. view_told (Some s)) known ∙ view_members version d ∙ sym (ap (λ only. judged (only && ((has_member (codes "of") (is_whole) d) && ((has_member (codes "index_id") (is_whole) d) && ((has_member (codes "max") (is_whole) d) && (has_member (codes "records") (is_list (is_record version)) d))))) (read_view version d)) only)
