use Rattle.std.proofs.Common.{map, refl, ap, subst}
use Rattle.std.specs.List.{AllByRecursion}
use Rattle.bep_json.specs.Written.{list_of}
use Rattle.bep_json.proofs.AddedFacts.{member_as, no_more_members, object_added}
use Rattle.bep_cut_document.specs.Trees.{cut_tree, folder_tree, link_tree}
use Rattle.bep_cut_document.specs.inner.Sound.{IsFolderSound, IsLinkSound}
use Rattle.bep_cut_document.specs.inner.Told.{IsFolderTold, IsLinkTold}
use Rattle.bep_cut_document.proofs.back.ReadBack.{cut_is_told}
use Rattle.bep_cut_document.proofs.whole.write_cut.Goals as goal

pub returns-clause-value : goal.returns-clause-value
unfolding cut_tree
returns-clause-value c =
    object_added refl c.in_ok-begin_object.ensures
    (member_as (ap (λ folders. list_of (map folder_tree folders)) c.folders.ensures.value) c.in_ok-add_list.ensures.value
    (member_as (ap (λ links. list_of (map link_tree links)) c.links.ensures.value) c.in_ok-add_list-2.ensures.value
    (no_more_members c.in_ok-end_object.ensures)))

pub returns-clause-told : goal.returns-clause-told
returns-clause-told c =
    let folders = subst (AllByRecursion IsFolderTold) c.folders.ensures.value c.in_ok-add_list.ensures.told in
    let links = subst (AllByRecursion IsLinkTold) c.links.ensures.value c.in_ok-add_list-2.ensures.told in
    let folders_sound = subst (AllByRecursion IsFolderSound) c.folders.ensures.value c.in_ok-add_list.ensures.sound in
    let links_sound = subst (AllByRecursion IsLinkSound) c.links.ensures.value c.in_ok-add_list-2.ensures.sound in
    cut_is_told c.faultless_parts_are_read.ensures.few_devices c.args.cut.now c.folders.ensures.a_cut folders links folders_sound links_sound
