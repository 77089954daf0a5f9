-- What is told of the members of a node is what is told of it.
use Rattle.std.specs.Prelude.{Bool, true, false, Option, None, Some, Err, List, ℕ, [], ◌||◌, not, if◌then◌else◌, is_some, option_map, unwrap_or, codes}
use Rattle.std.proofs.Common.{◌≡◌, ◌∙◌, ◌&&◌, refl, sym, ap, ap₂}
use Rattle.std.proofs.Math.Bool.{and_assoc, and_comm, and-true}
use Rattle.serde_json.specs.Data.{Data}
use Rattle.serde_json.specs.Find.{get}
use Rattle.bep_tree.specs.Names.{has_only}
use Rattle.bep_record.specs.declared.limits.TheConstants.{MAX_NANOSECONDS}
use Rattle.bep_json.specs.declared.told.Misread.TheVariants.{Shape}
use Rattle.bep_json.specs.declared.version.DocVersion.{DocVersion}
use Rattle.bep_json.specs.declared.node_slots.NodeSlots.{NodeSlots}
use Rattle.bep_json.specs.Reading.{read_member, read_or, read_member_or}
use Rattle.bep_json.specs.Tree.{has_member, may_have_member}
use Rattle.bep_json.specs.Numbers.{is_whole, read_number, read_signed, read_kind}
use Rattle.bep_json.specs.Texts.{is_text, read_name, read_target, read_text_bytes, read_hex_bytes}
use Rattle.bep_json.specs.Nodes.{is_node, has_node_members, has_one_body, has_due_target, says_symlink, read_body, read_node}
use Rattle.bep_json.specs.Taking.{judged, slot, both, told_as}
use Rattle.bep_json.specs.inner.Filled.{AreFilled}
use Rattle.bep_json.specs.inner.Nodes.{node_names, node_slots, body_told, tells_due_target, node_things, node_of, node_told}
use Rattle.bep_json.proofs.TakingFacts.{due_is, due_or_is, both_is, told_as_is, pair, read_6}
use Rattle.bep_json.proofs.SaidFacts.{said_is, is_there, if_also, kinds_are_whole}

-- ---- the bytes

digits_alone : (version : DocVersion) (found : Option Data)
    → body_told None (slot is_text (read_hex_bytes version) found) ≡ judged (unwrap_or (option_map is_text found) true && true) (read_or (read_hex_bytes version) [] found)
digits_alone version None = refl
digits_alone version (Some digits) = sym (ap (λ shape. judged shape (read_hex_bytes version digits)) (and-true (is_text digits)))

not_both : (text digits : Bool) (read : Option (List ℕ)) → Err Shape ≡ judged (text && (digits && false)) read
not_both true true read = refl
not_both true false read = refl
not_both false digits read = refl

text_first : (version : DocVersion) (text : Data) (found : Option Data)
    → body_told (Some (judged (is_text text) (read_text_bytes version text))) (slot is_text (read_hex_bytes version) found)
    ≡ judged (is_text text && (unwrap_or (option_map is_text found) true && not (is_some found))) (read_text_bytes version text)
text_first version text None = sym (ap (λ shape. judged shape (read_text_bytes version text)) (and-true (is_text text)))
text_first version text (Some digits) = not_both (is_text text) (is_text digits) (read_text_bytes version text)

body_of : (version : DocVersion) (d : Data) (text : Option Data)
    → body_told (slot is_text (read_text_bytes version) text) (slot is_text (read_hex_bytes version) (get (codes "hex") d))
    ≡ judged (unwrap_or (option_map is_text text) true && (may_have_member (codes "hex") is_text d && not (is_some text && is_some (get (codes "hex") d)))) (read_body version text d)
body_of version d None = digits_alone version (get (codes "hex") d)
body_of version d (Some text) = text_first version text (get (codes "hex") d)

body_is : (version : DocVersion) (d : Data)
    → body_told (slot is_text (read_text_bytes version) (get (codes "text") d)) (slot is_text (read_hex_bytes version) (get (codes "hex") d))
    ≡ judged (may_have_member (codes "text") is_text d && (may_have_member (codes "hex") is_text d && has_one_body d)) (read_body version (get (codes "text") d) d)
unfolding has_one_body
body_is version d = body_of version d (get (codes "text") d)

-- ---- the target

target_is : (version : DocVersion) (d : Data) → tells_due_target (node_slots version (λ name. get name d)) ≡ has_due_target d
unfolding has_due_target
target_is version d =
    ap₂ (λ kind there. not (says_symlink kind) || there)
    (said_is is_whole read_kind (get (codes "type") d) kinds_are_whole)
    (is_there is_text read_target (get (codes "target") d))

-- ---- all members

-- what is asked of the members, in the order of the definitions
body_last : (name kind modified_s modified_ns text digits one target : Bool)
    → name && (kind && (modified_s && (modified_ns && ((text && (digits && one)) && target))))
    ≡ (name && (kind && (modified_s && (modified_ns && (text && (digits && target)))))) && one
body_last false kind modified_s modified_ns text digits one target = refl
body_last true false modified_s modified_ns text digits one target = refl
body_last true true false modified_ns text digits one target = refl
body_last true true true false text digits one target = refl
body_last true true true true false digits one target = refl
body_last true true true true true false one target = refl
body_last true true true true true true one target = and_comm one target

all_asked : (name kind modified_s modified_ns text digits one target due : Bool)
    → due && (name && (kind && (modified_s && (modified_ns && ((text && (digits && one)) && target)))))
    ≡ (name && (kind && (modified_s && (modified_ns && (text && (digits && target)))))) && (one && due)
all_asked name kind modified_s modified_ns text digits one target due =
    let members = name && (kind && (modified_s && (modified_ns && (text && (digits && target))))) in
    ap (λ asked. due && asked) (body_last name kind modified_s modified_ns text digits one target)
    ∙ and_comm due (members && one)
    ∙ and_assoc members one due

things_are : (version : DocVersion) (d : Data)
    → told_as node_of (node_things (node_slots version (λ name. get name d))) ≡ judged ((has_member (codes "name") is_text d) && ((has_member (codes "type") is_whole d) && ((has_member (codes "modified_s") is_whole d) && ((may_have_member (codes "modified_ns") is_whole d) && ((may_have_member (codes "text") is_text d && (may_have_member (codes "hex") is_text d && has_one_body d)) && (may_have_member (codes "target") is_text d)))))) (read_node version d)
unfolding read_node
things_are version d =
    ap (told_as node_of) (ap₂ both (due_is (codes "name") is_text read_name d) (ap₂ both (due_is (codes "type") is_whole read_kind d) (ap₂ both (due_is (codes "modified_s") is_whole read_signed d) (ap₂ both (due_or_is 0 (codes "modified_ns") is_whole (read_number 0 MAX_NANOSECONDS) d) (ap₂ both (body_is version d) (due_or_is [] (codes "target") is_text read_target d) ∙ both_is (may_have_member (codes "text") is_text d && (may_have_member (codes "hex") is_text d && has_one_body d)) (may_have_member (codes "target") is_text d) (read_body version (get (codes "text") d) d) (read_member_or (codes "target") read_target [] d)) ∙ both_is (may_have_member (codes "modified_ns") is_whole d) ((may_have_member (codes "text") is_text d && (may_have_member (codes "hex") is_text d && has_one_body d)) && (may_have_member (codes "target") is_text d)) (read_member_or (codes "modified_ns") (read_number 0 MAX_NANOSECONDS) 0 d) (pair (read_body version (get (codes "text") d) d) (read_member_or (codes "target") read_target [] d))) ∙ both_is (has_member (codes "modified_s") is_whole d) ((may_have_member (codes "modified_ns") is_whole d) && ((may_have_member (codes "text") is_text d && (may_have_member (codes "hex") is_text d && has_one_body d)) && (may_have_member (codes "target") is_text d))) (read_member (codes "modified_s") read_signed d) (pair (read_member_or (codes "modified_ns") (read_number 0 MAX_NANOSECONDS) 0 d) (pair (read_body version (get (codes "text") d) d) (read_member_or (codes "target") read_target [] d)))) ∙ both_is (has_member (codes "type") is_whole d) ((has_member (codes "modified_s") is_whole d) && ((may_have_member (codes "modified_ns") is_whole d) && ((may_have_member (codes "text") is_text d && (may_have_member (codes "hex") is_text d && has_one_body d)) && (may_have_member (codes "target") is_text d)))) (read_member (codes "type") read_kind d) (pair (read_member (codes "modified_s") read_signed d) (pair (read_member_or (codes "modified_ns") (read_number 0 MAX_NANOSECONDS) 0 d) (pair (read_body version (get (codes "text") d) d) (read_member_or (codes "target") read_target [] d))))) ∙ both_is (has_member (codes "name") is_text d) ((has_member (codes "type") is_whole d) && ((has_member (codes "modified_s") is_whole d) && ((may_have_member (codes "modified_ns") is_whole d) && ((may_have_member (codes "text") is_text d && (may_have_member (codes "hex") is_text d && has_one_body d)) && (may_have_member (codes "target") is_text d))))) (read_member (codes "name") read_name d) (pair (read_member (codes "type") read_kind d) (pair (read_member (codes "modified_s") read_signed d) (pair (read_member_or (codes "modified_ns") (read_number 0 MAX_NANOSECONDS) 0 d) (pair (read_body version (get (codes "text") d) d) (read_member_or (codes "target") read_target [] d))))))
    ∙ told_as_is node_of ((has_member (codes "name") is_text d) && ((has_member (codes "type") is_whole d) && ((has_member (codes "modified_s") is_whole d) && ((may_have_member (codes "modified_ns") is_whole d) && ((may_have_member (codes "text") is_text d && (may_have_member (codes "hex") is_text d && has_one_body d)) && (may_have_member (codes "target") is_text d)))))) (pair (read_member (codes "name") read_name d) (pair (read_member (codes "type") read_kind d) (pair (read_member (codes "modified_s") read_signed d) (pair (read_member_or (codes "modified_ns") (read_number 0 MAX_NANOSECONDS) 0 d) (pair (read_body version (get (codes "text") d) d) (read_member_or (codes "target") read_target [] d))))))
    ∙ ap (judged ((has_member (codes "name") is_text d) && ((has_member (codes "type") is_whole d) && ((has_member (codes "modified_s") is_whole d) && ((may_have_member (codes "modified_ns") is_whole d) && ((may_have_member (codes "text") is_text d && (may_have_member (codes "hex") is_text d && has_one_body d)) && (may_have_member (codes "target") is_text d))))))) (read_6 node_of (read_member (codes "name") read_name d) (read_member (codes "type") read_kind d) (read_member (codes "modified_s") read_signed d) (read_member_or (codes "modified_ns") (read_number 0 MAX_NANOSECONDS) 0 d) (read_body version (get (codes "text") d) d) (read_member_or (codes "target") read_target [] d))

-- what is asked of the members that a node has
abbrev has_all : Data → Bool
has_all d = ((has_member (codes "name") is_text d) && ((has_member (codes "type") is_whole d) && ((has_member (codes "modified_s") is_whole d) && ((may_have_member (codes "modified_ns") is_whole d) && ((may_have_member (codes "text") is_text d) && ((may_have_member (codes "hex") is_text d) && (may_have_member (codes "target") is_text d)))))))

members_are : (version : DocVersion) (d : Data) → node_told (node_slots version (λ name. get name d)) ≡ judged (has_all d && (has_one_body d && has_due_target d)) (read_node version d)
members_are version d =
    ap₂ (λ also told. if also then told else Err Shape) (target_is version d) (things_are version d)
    ∙ if_also (has_due_target d) ((has_member (codes "name") is_text d) && ((has_member (codes "type") is_whole d) && ((has_member (codes "modified_s") is_whole d) && ((may_have_member (codes "modified_ns") is_whole d) && ((may_have_member (codes "text") is_text d && (may_have_member (codes "hex") is_text d && has_one_body d)) && (may_have_member (codes "target") is_text d)))))) (read_node version d)
    ∙ ap (λ shape. judged shape (read_node version d)) (all_asked (has_member (codes "name") is_text d) (has_member (codes "type") is_whole d) (has_member (codes "modified_s") is_whole d) (may_have_member (codes "modified_ns") is_whole d) (may_have_member (codes "text") is_text d) (may_have_member (codes "hex") is_text d) (has_one_body d) (may_have_member (codes "target") is_text d) (has_due_target d))

-- what has other members, or is no object, is no node
pub no_node : (version : DocVersion) (d : Data) → has_only node_names d ≡ false → Err Shape ≡ judged (is_node d) (read_node version d)
unfolding is_node has_node_members
no_node version d strange = sym (ap (λ only. judged ((only && has_all d) && (has_one_body d && has_due_target d)) (read_node version d)) strange)

pub node_is : (version : DocVersion) (slots : NodeSlots) (d : Data) → AreFilled node_names (node_slots version) true slots d → node_told slots ≡ judged (is_node d) (read_node version d)
unfolding is_node has_node_members
node_is version slots d (only, known) =
    ap node_told known ∙ members_are version d
    ∙ sym (ap (λ only. judged ((only && has_all d) && (has_one_body d && has_due_target d)) (read_node version d)) only)
