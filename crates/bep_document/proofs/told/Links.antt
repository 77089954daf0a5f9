-- What is told of the members of a link is what is told of it.
use Rattle.std.proofs.Common.{◌≡◌, ◌∙◌, [], ◌&&◌, Option, Some, None, sym, ap, ap₂}
use Rattle.std.specs.Prelude.{codes}
use Rattle.serde_json.specs.Data.{Data}
use Rattle.serde_json.specs.Find.{get}
use Rattle.bep_json.specs.declared.version.DocVersion.{DocVersion}
use Rattle.bep_json.specs.Reading.{read_member, read_member_or}
use Rattle.bep_json.specs.Tree.{has_member, may_have_member}
use Rattle.bep_json.specs.Taking.{judged, Fills, both, told_as}
use Rattle.bep_json.proofs.TakingFacts.{due_is, due_or_is, both_is, told_as_is, pair, read_6}
use Rattle.bep_document.specs.declared.take.links.LinkSlots.{LinkSlots}
use Rattle.bep_document.specs.inner.Links.{link_names, link_slots, link_of, link_told}
use Rattle.bep_json.specs.Lists.{is_list}
use Rattle.bep_document.specs.read.Few.{read_few}
use Rattle.bep_json.specs.Numbers.{is_whole, is_flag, read_number, read_flag, greatest_id}
use Rattle.bep_index.specs.declared.limits.TheConstants.{MAX_SEQUENCE}
use Rattle.bep_record.specs.declared.limits.TheConstants.{MAX_MESSAGES}
use Rattle.bep_document.specs.read.Links.{is_flight, read_flight, is_link, read_link}

-- of the members that a link has
link_members : (version : DocVersion) (d : Data) → link_told (Some (link_slots version (λ name. get name d))) ≡ judged ((has_member (codes "a") (is_whole) d) && ((has_member (codes "b") (is_whole) d) && ((has_member (codes "up") (is_flag) d) && ((has_member (codes "epoch") (is_whole) d) && ((may_have_member (codes "to_a") (is_list (is_flight version)) d) && (may_have_member (codes "to_b") (is_list (is_flight version)) d)))))) (read_link version d)
unfolding read_link
link_members version d =
    ap (told_as link_of) (ap₂ both (due_is (codes "a") (is_whole) (read_number 1 greatest_id) d) (ap₂ both (due_is (codes "b") (is_whole) (read_number 1 greatest_id) d) (ap₂ both (due_is (codes "up") (is_flag) (read_flag) d) (ap₂ both (due_is (codes "epoch") (is_whole) (read_number 0 MAX_SEQUENCE) d) (ap₂ both (due_or_is [] (codes "to_a") (is_list (is_flight version)) (read_few MAX_MESSAGES (read_flight version)) d) (due_or_is [] (codes "to_b") (is_list (is_flight version)) (read_few MAX_MESSAGES (read_flight version)) d) ∙ both_is (may_have_member (codes "to_a") (is_list (is_flight version)) d) (may_have_member (codes "to_b") (is_list (is_flight version)) d) (read_member_or (codes "to_a") (read_few MAX_MESSAGES (read_flight version)) [] d) (read_member_or (codes "to_b") (read_few MAX_MESSAGES (read_flight version)) [] d)) ∙ both_is (has_member (codes "epoch") (is_whole) d) ((may_have_member (codes "to_a") (is_list (is_flight version)) d) && (may_have_member (codes "to_b") (is_list (is_flight version)) d)) (read_member (codes "epoch") (read_number 0 MAX_SEQUENCE) d) (pair (read_member_or (codes "to_a") (read_few MAX_MESSAGES (read_flight version)) [] d) (read_member_or (codes "to_b") (read_few MAX_MESSAGES (read_flight version)) [] d))) ∙ both_is (has_member (codes "up") (is_flag) d) ((has_member (codes "epoch") (is_whole) d) && ((may_have_member (codes "to_a") (is_list (is_flight version)) d) && (may_have_member (codes "to_b") (is_list (is_flight version)) d))) (read_member (codes "up") (read_flag) d) (pair (read_member (codes "epoch") (read_number 0 MAX_SEQUENCE) d) (pair (read_member_or (codes "to_a") (read_few MAX_MESSAGES (read_flight version)) [] d) (read_member_or (codes "to_b") (read_few MAX_MESSAGES (read_flight version)) [] d)))) ∙ both_is (has_member (codes "b") (is_whole) d) ((has_member (codes "up") (is_flag) d) && ((has_member (codes "epoch") (is_whole) d) && ((may_have_member (codes "to_a") (is_list (is_flight version)) d) && (may_have_member (codes "to_b") (is_list (is_flight version)) d)))) (read_member (codes "b") (read_number 1 greatest_id) d) (pair (read_member (codes "up") (read_flag) d) (pair (read_member (codes "epoch") (read_number 0 MAX_SEQUENCE) d) (pair (read_member_or (codes "to_a") (read_few MAX_MESSAGES (read_flight version)) [] d) (read_member_or (codes "to_b") (read_few MAX_MESSAGES (read_flight version)) [] d))))) ∙ both_is (has_member (codes "a") (is_whole) d) ((has_member (codes "b") (is_whole) d) && ((has_member (codes "up") (is_flag) d) && ((has_member (codes "epoch") (is_whole) d) && ((may_have_member (codes "to_a") (is_list (is_flight version)) d) && (may_have_member (codes "to_b") (is_list (is_flight version)) d))))) (read_member (codes "a") (read_number 1 greatest_id) d) (pair (read_member (codes "b") (read_number 1 greatest_id) d) (pair (read_member (codes "up") (read_flag) d) (pair (read_member (codes "epoch") (read_number 0 MAX_SEQUENCE) d) (pair (read_member_or (codes "to_a") (read_few MAX_MESSAGES (read_flight version)) [] d) (read_member_or (codes "to_b") (read_few MAX_MESSAGES (read_flight version)) [] d))))))
    ∙ told_as_is link_of ((has_member (codes "a") (is_whole) d) && ((has_member (codes "b") (is_whole) d) && ((has_member (codes "up") (is_flag) d) && ((has_member (codes "epoch") (is_whole) d) && ((may_have_member (codes "to_a") (is_list (is_flight version)) d) && (may_have_member (codes "to_b") (is_list (is_flight version)) d)))))) (pair (read_member (codes "a") (read_number 1 greatest_id) d) (pair (read_member (codes "b") (read_number 1 greatest_id) d) (pair (read_member (codes "up") (read_flag) d) (pair (read_member (codes "epoch") (read_number 0 MAX_SEQUENCE) d) (pair (read_member_or (codes "to_a") (read_few MAX_MESSAGES (read_flight version)) [] d) (read_member_or (codes "to_b") (read_few MAX_MESSAGES (read_flight version)) [] d))))))
    ∙ ap (judged ((has_member (codes "a") (is_whole) d) && ((has_member (codes "b") (is_whole) d) && ((has_member (codes "up") (is_flag) d) && ((has_member (codes "epoch") (is_whole) d) && ((may_have_member (codes "to_a") (is_list (is_flight version)) d) && (may_have_member (codes "to_b") (is_list (is_flight version)) d))))))) (read_6 link_of (read_member (codes "a") (read_number 1 greatest_id) d) (read_member (codes "b") (read_number 1 greatest_id) d) (read_member (codes "up") (read_flag) d) (read_member (codes "epoch") (read_number 0 MAX_SEQUENCE) d) (read_member_or (codes "to_a") (read_few MAX_MESSAGES (read_flight version)) [] d) (read_member_or (codes "to_b") (read_few MAX_MESSAGES (read_flight version)) [] d))

pub link_is : (version : DocVersion) (slots : Option LinkSlots) (d : Data) → Fills link_names (link_slots version) slots d → link_told slots ≡ judged (is_link version d) (read_link version d)
unfolding is_link
link_is version None d strange = sym (ap (λ only. judged (only && ((has_member (codes "a") (is_whole) d) && ((has_member (codes "b") (is_whole) d) && ((has_member (codes "up") (is_flag) d) && ((has_member (codes "epoch") (is_whole) d) && ((may_have_member (codes "to_a") (is_list (is_flight version)) d) && (may_have_member (codes "to_b") (is_list (is_flight version)) d))))))) (read_link version d)) strange)
link_is version (Some slots) d (only, known) = ap (λ s. link_told (Some s)) known ∙ link_members version d ∙ sym (ap (λ only. judged (only && ((has_member (codes "a") (is_whole) d) && ((has_member (codes "b") (is_whole) d) && ((has_member (codes "up") (is_flag) d) && ((has_member (codes "epoch") (is_whole) d) && ((may_have_member (codes "to_a") (is_list (is_flight version)) d) && (may_have_member (codes "to_b") (is_list (is_flight version)) d))))))) (read_link version d)) only)
