-- What is told of the members of a cut is what is told of it.
use Rattle.std.proofs.Common.{◌≡◌, ◌∙◌, [], ◌&&◌, Bool, true, false, List, Option, Some, None, refl, sym, ap, ap₂}
use Rattle.std.specs.Prelude.{codes}
use Rattle.serde_json.specs.Data.{Data}
use Rattle.serde_json.specs.Find.{get}
use Rattle.bep_json.specs.declared.version.DocVersion.{DocVersion}
use Rattle.bep_json.specs.Lists.{is_list, read_list}
use Rattle.bep_json.specs.Reading.{◌>>=◌, read_member, read_member_or}
use Rattle.bep_json.specs.Tree.{has_member, may_have_member}
use Rattle.bep_json.specs.Taking.{judged, Fills, both}
use Rattle.bep_json.proofs.TakingFacts.{due_is, due_or_is, both_is, pair}
use Rattle.bep_record.specs.declared.limits.TheConstants.{MAX_FOLDERS}
use Rattle.bep_document.specs.declared.parts.FolderParts.{FolderParts}
use Rattle.bep_document.specs.declared.parts.LinkParts.{LinkParts}
use Rattle.bep_document.specs.declared.take.cut.CutSlots.{CutSlots}
use Rattle.bep_document.specs.inner.Cuts.{cut_names, cut_slots, cut_of_told, cut_told}
use Rattle.bep_document.specs.read.Checks.{is_cut, read_cut, if_few_devices}
use Rattle.bep_document.specs.read.Devices.{has_few_devices}
use Rattle.bep_document.specs.read.Few.{read_few}
use Rattle.bep_document.specs.read.Folders.{is_folder, read_folder}
use Rattle.bep_document.specs.read.Links.{is_link, read_link}

-- the lists of a cut, where not too many different devices share the folders
abbrev lists_of : Option (List FolderParts) → Option (List LinkParts) → Option (List FolderParts × List LinkParts)
lists_of folders links = (folders >>= if_few_devices) >>= λ few. links >>= λ others. Some (few, others)

by_devices : (folders : List FolderParts) (links : Option (List LinkParts)) (few : Bool) → has_few_devices folders ≡ few → cut_of_told (judged true (pair (Some folders) links)) ≡ judged true (lists_of (Some folders) links)
by_devices folders (Some links) true is = rw is
by_devices folders (Some links) false is = rw is
by_devices folders None true is = rw is
by_devices folders None false is = rw is

of_lists : (shape : Bool) (folders : Option (List FolderParts)) (links : Option (List LinkParts)) → cut_of_told (judged shape (pair folders links)) ≡ judged shape (lists_of folders links)
of_lists false folders links = refl
of_lists true None links = refl
of_lists true (Some folders) links = by_devices folders links (has_few_devices folders) refl

-- of the members that a cut has
cut_members : (version : DocVersion) (d : Data)
    → cut_told (Some (cut_slots version (λ name. get name d))) ≡ judged (has_member (codes "folders") (is_list (is_folder version)) d && may_have_member (codes "links") (is_list (is_link version)) d) (read_cut version d)
unfolding read_cut
cut_members version d =
    let folders = due_is (codes "folders") (is_list (is_folder version)) (read_few MAX_FOLDERS (read_folder version)) d in
    let links = due_or_is [] (codes "links") (is_list (is_link version)) (read_list (read_link version)) d in
    ap cut_of_told (ap₂ both folders links ∙ both_is _ _ _ _) ∙ of_lists (has_member (codes "folders") (is_list (is_folder version)) d && may_have_member (codes "links") (is_list (is_link version)) d) (read_member (codes "folders") (read_few MAX_FOLDERS (read_folder version)) d) (read_member_or (codes "links") (read_list (read_link version)) [] d)

pub cut_is : (version : DocVersion) (slots : Option CutSlots) (d : Data) → Fills cut_names (cut_slots version) slots d → cut_told slots ≡ judged (is_cut version d) (read_cut version d)
unfolding is_cut
cut_is version None d strange =
    sym (ap (λ only. judged (only && (has_member (codes "folders") (is_list (is_folder version)) d && may_have_member (codes "links") (is_list (is_link version)) d)) (read_cut version d)) strange)
cut_is version (Some slots) d (only, known) =
    ap (λ s. cut_told (Some s)) known ∙ cut_members version d
    ∙ sym (ap (λ only. judged (only && (has_member (codes "folders") (is_list (is_folder version)) d && may_have_member (codes "links") (is_list (is_link version)) d)) (read_cut version d)) only)
