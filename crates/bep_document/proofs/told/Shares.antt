-- What is told of the members of a device that shares a folder is what is told of it.
use Rattle.std.proofs.Common.{◌≡◌, ◌∙◌, [], ◌&&◌, Option, Some, None, sym, ap, ap₂}
use Rattle.std.specs.Prelude.{codes}
use Rattle.serde_json.specs.Data.{Data}
use Rattle.serde_json.specs.Find.{get}
use Rattle.bep_json.specs.declared.version.DocVersion.{DocVersion}
use Rattle.bep_json.specs.Reading.{read_member, read_member_or}
use Rattle.bep_json.specs.Tree.{has_member, may_have_member}
use Rattle.bep_json.specs.Taking.{judged, Fills, both, told_as}
use Rattle.bep_json.proofs.TakingFacts.{due_is, due_or_is, both_is, told_as_is, pair, read_8}
use Rattle.bep_document.specs.declared.take.shares.ShareSlots.{ShareSlots}
use Rattle.bep_document.specs.inner.Shares.{share_names, share_slots, share_of, share_told}
use Rattle.bep_json.specs.Records.{is_record, read_record}
use Rattle.bep_json.specs.Lists.{is_list, read_list}
use Rattle.bep_document.specs.read.Few.{read_few}
use Rattle.bep_json.specs.Numbers.{is_whole, read_number, greatest_id}
use Rattle.bep_json.specs.Texts.{is_text, read_folder_kind}
use Rattle.bep_json.specs.Nodes.{is_node, read_node}
use Rattle.bep_index.specs.declared.limits.TheConstants.{MAX_NAMES, MAX_SEQUENCE}
use Rattle.bep_record.specs.declared.limits.TheConstants.{MAX_PULLS}
use Rattle.bep_document.specs.read.Views.{is_view, read_view}
use Rattle.bep_document.specs.read.Shares.{is_share, read_share}

-- of the members that a device that shares a folder has
share_members : (version : DocVersion) (d : Data) → share_told (Some (share_slots version (λ name. get name d))) ≡ judged ((has_member (codes "device") (is_whole) d) && ((has_member (codes "kind") (is_text) d) && ((has_member (codes "index_id") (is_whole) d) && ((has_member (codes "max") (is_whole) d) && ((may_have_member (codes "own") (is_list (is_record version)) d) && ((may_have_member (codes "store") (is_list is_node) d) && ((may_have_member (codes "views") (is_list (is_view version)) d) && (may_have_member (codes "pulls") (is_list (is_record version)) d)))))))) (read_share version d)
unfolding read_share
share_members version d =
    ap (told_as share_of) (ap₂ both (due_is (codes "device") (is_whole) (read_number 1 greatest_id) d) (ap₂ both (due_is (codes "kind") (is_text) (read_folder_kind) d) (ap₂ both (due_is (codes "index_id") (is_whole) (read_number 1 greatest_id) d) (ap₂ both (due_is (codes "max") (is_whole) (read_number 0 MAX_SEQUENCE) d) (ap₂ both (due_or_is [] (codes "own") (is_list (is_record version)) (read_few MAX_NAMES (read_record version)) d) (ap₂ both (due_or_is [] (codes "store") (is_list is_node) (read_list (read_node version)) d) (ap₂ both (due_or_is [] (codes "views") (is_list (is_view version)) (read_list (read_view version)) d) (due_or_is [] (codes "pulls") (is_list (is_record version)) (read_few MAX_PULLS (read_record version)) d) ∙ both_is (may_have_member (codes "views") (is_list (is_view version)) d) (may_have_member (codes "pulls") (is_list (is_record version)) d) (read_member_or (codes "views") (read_list (read_view version)) [] d) (read_member_or (codes "pulls") (read_few MAX_PULLS (read_record version)) [] d)) ∙ both_is (may_have_member (codes "store") (is_list is_node) d) ((may_have_member (codes "views") (is_list (is_view version)) d) && (may_have_member (codes "pulls") (is_list (is_record version)) d)) (read_member_or (codes "store") (read_list (read_node version)) [] d) (pair (read_member_or (codes "views") (read_list (read_view version)) [] d) (read_member_or (codes "pulls") (read_few MAX_PULLS (read_record version)) [] d))) ∙ both_is (may_have_member (codes "own") (is_list (is_record version)) d) ((may_have_member (codes "store") (is_list is_node) d) && ((may_have_member (codes "views") (is_list (is_view version)) d) && (may_have_member (codes "pulls") (is_list (is_record version)) d))) (read_member_or (codes "own") (read_few MAX_NAMES (read_record version)) [] d) (pair (read_member_or (codes "store") (read_list (read_node version)) [] d) (pair (read_member_or (codes "views") (read_list (read_view version)) [] d) (read_member_or (codes "pulls") (read_few MAX_PULLS (read_record version)) [] d)))) ∙ both_is (has_member (codes "max") (is_whole) d) ((may_have_member (codes "own") (is_list (is_record version)) d) && ((may_have_member (codes "store") (is_list is_node) d) && ((may_have_member (codes "views") (is_list (is_view version)) d) && (may_have_member (codes "pulls") (is_list (is_record version)) d)))) (read_member (codes "max") (read_number 0 MAX_SEQUENCE) d) (pair (read_member_or (codes "own") (read_few MAX_NAMES (read_record version)) [] d) (pair (read_member_or (codes "store") (read_list (read_node version)) [] d) (pair (read_member_or (codes "views") (read_list (read_view version)) [] d) (read_member_or (codes "pulls") (read_few MAX_PULLS (read_record version)) [] d))))) ∙ both_is (has_member (codes "index_id") (is_whole) d) ((has_member (codes "max") (is_whole) d) && ((may_have_member (codes "own") (is_list (is_record version)) d) && ((may_have_member (codes "store") (is_list is_node) d) && ((may_have_member (codes "views") (is_list (is_view version)) d) && (may_have_member (codes "pulls") (is_list (is_record version)) d))))) (read_member (codes "index_id") (read_number 1 greatest_id) d) (pair (read_member (codes "max") (read_number 0 MAX_SEQUENCE) d) (pair (read_member_or (codes "own") (read_few MAX_NAMES (read_record version)) [] d) (pair (read_member_or (codes "store") (read_list (read_node version)) [] d) (pair (read_member_or (codes "views") (read_list (read_view version)) [] d) (read_member_or (codes "pulls") (read_few MAX_PULLS (read_record version)) [] d)))))) ∙ both_is (has_member (codes "kind") (is_text) d) ((has_member (codes "index_id") (is_whole) d) && ((has_member (codes "max") (is_whole) d) && ((may_have_member (codes "own") (is_list (is_record version)) d) && ((may_have_member (codes "store") (is_list is_node) d) && ((may_have_member (codes "views") (is_list (is_view version)) d) && (may_have_member (codes "pulls") (is_list (is_record version)) d)))))) (read_member (codes "kind") (read_folder_kind) d) (pair (read_member (codes "index_id") (read_number 1 greatest_id) d) (pair (read_member (codes "max") (read_number 0 MAX_SEQUENCE) d) (pair (read_member_or (codes "own") (read_few MAX_NAMES (read_record version)) [] d) (pair (read_member_or (codes "store") (read_list (read_node version)) [] d) (pair (read_member_or (codes "views") (read_list (read_view version)) [] d) (read_member_or (codes "pulls") (read_few MAX_PULLS (read_record version)) [] d))))))) ∙ both_is (has_member (codes "device") (is_whole) d) ((has_member (codes "kind") (is_text) d) && ((has_member (codes "index_id") (is_whole) d) && ((has_member (codes "max") (is_whole) d) && ((may_have_member (codes "own") (is_list (is_record version)) d) && ((may_have_member (codes "store") (is_list is_node) d) && ((may_have_member (codes "views") (is_list (is_view version)) d) && (may_have_member (codes "pulls") (is_list (is_record version)) d))))))) (read_member (codes "device") (read_number 1 greatest_id) d) (pair (read_member (codes "kind") (read_folder_kind) d) (pair (read_member (codes "index_id") (read_number 1 greatest_id) d) (pair (read_member (codes "max") (read_number 0 MAX_SEQUENCE) d) (pair (read_member_or (codes "own") (read_few MAX_NAMES (read_record version)) [] d) (pair (read_member_or (codes "store") (read_list (read_node version)) [] d) (pair (read_member_or (codes "views") (read_list (read_view version)) [] d) (read_member_or (codes "pulls") (read_few MAX_PULLS (read_record version)) [] d))))))))
    ∙ told_as_is share_of ((has_member (codes "device") (is_whole) d) && ((has_member (codes "kind") (is_text) d) && ((has_member (codes "index_id") (is_whole) d) && ((has_member (codes "max") (is_whole) d) && ((may_have_member (codes "own") (is_list (is_record version)) d) && ((may_have_member (codes "store") (is_list is_node) d) && ((may_have_member (codes "views") (is_list (is_view version)) d) && (may_have_member (codes "pulls") (is_list (is_record version)) d)))))))) (pair (read_member (codes "device") (read_number 1 greatest_id) d) (pair (read_member (codes "kind") (read_folder_kind) d) (pair (read_member (codes "index_id") (read_number 1 greatest_id) d) (pair (read_member (codes "max") (read_number 0 MAX_SEQUENCE) d) (pair (read_member_or (codes "own") (read_few MAX_NAMES (read_record version)) [] d) (pair (read_member_or (codes "store") (read_list (read_node version)) [] d) (pair (read_member_or (codes "views") (read_list (read_view version)) [] d) (read_member_or (codes "pulls") (read_few MAX_PULLS (read_record version)) [] d))))))))
    ∙ ap (judged ((has_member (codes "device") (is_whole) d) && ((has_member (codes "kind") (is_text) d) && ((has_member (codes "index_id") (is_whole) d) && ((has_member (codes "max") (is_whole) d) && ((may_have_member (codes "own") (is_list (is_record version)) d) && ((may_have_member (codes "store") (is_list is_node) d) && ((may_have_member (codes "views") (is_list (is_view version)) d) && (may_have_member (codes "pulls") (is_list (is_record version)) d))))))))) (read_8 share_of (read_member (codes "device") (read_number 1 greatest_id) d) (read_member (codes "kind") (read_folder_kind) d) (read_member (codes "index_id") (read_number 1 greatest_id) d) (read_member (codes "max") (read_number 0 MAX_SEQUENCE) d) (read_member_or (codes "own") (read_few MAX_NAMES (read_record version)) [] d) (read_member_or (codes "store") (read_list (read_node version)) [] d) (read_member_or (codes "views") (read_list (read_view version)) [] d) (read_member_or (codes "pulls") (read_few MAX_PULLS (read_record version)) [] d))

pub share_is : (version : DocVersion) (slots : Option ShareSlots) (d : Data) → Fills share_names (share_slots version) slots d → share_told slots ≡ judged (is_share version d) (read_share version d)
unfolding is_share
share_is version None d strange = sym (ap (λ only. judged (only && ((has_member (codes "device") (is_whole) d) && ((has_member (codes "kind") (is_text) d) && ((has_member (codes "index_id") (is_whole) d) && ((has_member (codes "max") (is_whole) d) && ((may_have_member (codes "own") (is_list (is_record version)) d) && ((may_have_member (codes "store") (is_list is_node) d) && ((may_have_member (codes "views") (is_list (is_view version)) d) && (may_have_member (codes "pulls") (is_list (is_record version)) d))))))))) (read_share version d)) strange)
share_is version (Some slots) d (only, known) = ap (λ s. share_told (Some s)) known ∙ share_members version d ∙ sym (ap (λ only. judged (only && ((has_member (codes "device") (is_whole) d) && ((has_member (codes "kind") (is_text) d) && ((has_member (codes "index_id") (is_whole) d) && ((has_member (codes "max") (is_whole) d) && ((may_have_member (codes "own") (is_list (is_record version)) d) && ((may_have_member (codes "store") (is_list is_node) d) && ((may_have_member (codes "views") (is_list (is_view version)) d) && (may_have_member (codes "pulls") (is_list (is_record version)) d))))))))) (read_share version d)) only)
