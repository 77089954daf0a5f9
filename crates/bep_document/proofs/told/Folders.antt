-- What is told of the members of a folder is what is told of it.
use Rattle.std.proofs.Common.{◌≡◌, ◌∙◌, ◌&&◌, Option, Some, None, sym, ap, ap₂}
use Rattle.std.specs.Prelude.{codes}
use Rattle.serde_json.specs.Data.{Data}
use Rattle.serde_json.specs.Find.{get}
use Rattle.bep_json.specs.declared.version.DocVersion.{DocVersion}
use Rattle.bep_json.specs.Reading.{read_member}
use Rattle.bep_json.specs.Tree.{has_member}
use Rattle.bep_json.specs.Taking.{judged, Fills, both, told_as}
use Rattle.bep_json.proofs.TakingFacts.{due_is, both_is, told_as_is, pair, read_2}
use Rattle.bep_document.specs.declared.take.folders.FolderSlots.{FolderSlots}
use Rattle.bep_document.specs.inner.Folders.{folder_names, folder_slots, folder_of, folder_told}
use Rattle.bep_json.specs.Lists.{is_list, read_list}
use Rattle.bep_json.specs.Texts.{is_text, read_folder_name}
use Rattle.bep_document.specs.read.Shares.{is_share, read_share}
use Rattle.bep_document.specs.read.Folders.{is_folder, read_folder}

-- of the members that a folder has
folder_members : (version : DocVersion) (d : Data) → folder_told (Some (folder_slots version (λ name. get name d))) ≡ judged ((has_member (codes "folder") (is_text) d) && (has_member (codes "devices") (is_list (is_share version)) d)) (read_folder version d)
unfolding read_folder
folder_members version d =
    ap (told_as folder_of) (ap₂ both (due_is (codes "folder") (is_text) (read_folder_name) d) (due_is (codes "devices") (is_list (is_share version)) (read_list (read_share version)) d) ∙ both_is (has_member (codes "folder") (is_text) d) (has_member (codes "devices") (is_list (is_share version)) d) (read_member (codes "folder") (read_folder_name) d) (read_member (codes "devices") (read_list (read_share version)) d))
    ∙ told_as_is folder_of ((has_member (codes "folder") (is_text) d) && (has_member (codes "devices") (is_list (is_share version)) d)) (pair (read_member (codes "folder") (read_folder_name) d) (read_member (codes "devices") (read_list (read_share version)) d))
    ∙ ap (judged ((has_member (codes "folder") (is_text) d) && (has_member (codes "devices") (is_list (is_share version)) d))) (read_2 folder_of (read_member (codes "folder") (read_folder_name) d) (read_member (codes "devices") (read_list (read_share version)) d))

pub folder_is : (version : DocVersion) (slots : Option FolderSlots) (d : Data) → Fills folder_names (folder_slots version) slots d → folder_told slots ≡ judged (is_folder version d) (read_folder version d)
unfolding is_folder
folder_is version None d strange = sym (ap (λ only. judged (only && ((has_member (codes "folder") (is_text) d) && (has_member (codes "devices") (is_list (is_share version)) d))) (read_folder version d)) strange)
folder_is version (Some slots) d (only, known) = ap (λ s. folder_told (Some s)) known ∙ folder_members version d ∙ sym (ap (λ only. judged (only && ((has_member (codes "folder") (is_text) d) && (has_member (codes "devices") (is_list (is_share version)) d))) (read_folder version d)) only)
