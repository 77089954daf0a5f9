use Rattle.std.proofs.Common.{◌≡◌, ◌∙◌, ◌+◌, ◌∷◌, [], List, Contains, IsSome, Option, option_map, ap, arith, refl, subst, sym, take}
use Rattle.std.specs.Cmp.Lexicographic.{nat_list_cmp_total}
use Rattle.std.specs.FinMap.{get}
use Rattle.std.proofs.lemmas.List.{take_all}
use Rattle.std.proofs.lemmas.List.Elements.{Contains-get_or}
use Rattle.std.proofs.lemmas.Map.Lookups.{exact_bytes}
use Rattle.bep_facts.specs.Filled.{IsFilled, all_filled, filled_next, none_filled, with_value}
use Rattle.bep_facts.specs.Maps.{key_has_value}
use Rattle.bep_facts.specs.Places.{done_with}
use Rattle.bep_map.specs.NameMap.{ByName}
use Rattle.bep_model.specs.Tables.{Folder}
use Rattle.bep_folder.specs.Held.{Held}
use Rattle.bep_peer.specs.Copied.{folders_copied}
use Rattle.bep_peer.specs.declared.trace.Trace.{Trace}
use Rattle.bep_peer.proofs.CopyFacts.{copied_later, remains_after, reread_after, reread_itself, same_names, still_there}
use Rattle.bep_peer.proofs.peer.Peer.copy_folders.Goals as goal

pub loop-folder-init : goal.loop-folder-init
loop-folder-init g c =
    (subst (IsFilled (folders_copied c.args.self.now.folders) []) (sym c.new-copies.ensures) (none_filled nat_list_cmp_total exact_bytes (folders_copied c.args.self.now.folders)), reread_itself c.args.self.now, refl, refl)

pub copy_folder-requires : goal.copy_folder-requires
copy_folder-requires g c =
    let folders = c.args.self.now.folders in
    let folder = c.folder-item.result in
    let named : Contains c.args.names.now folder = subst (Contains c.args.names.now) (sym c.folder-item.is) (Contains-get_or c.args.names.now c.loop-folder.folder-index folder c.loop-folder-test.true) in
    still_there c.loop-folder.invariant.1 folder ((key_has_value nat_list_cmp_total exact_bytes folders folder).0 (subst (λ (names : List Folder). Contains names folder) c.requires.names named))

pub returns-in_err-copy_folder-clause-rest : goal.returns-in_err-copy_folder-clause-rest
returns-in_err-copy_folder-clause-rest g c = remains_after c.loop-folder.invariant.1 c.in_err-copy_folder.ensures.rest

pub loop-folder-preserved : goal.loop-folder-preserved
loop-folder-preserved g c =
    let from = folders_copied c.args.self.now.folders in
    let names = c.args.names.now in
    let index = c.loop-folder.folder-index in
    let folder = c.folder-item.result in
    let before = c.loop-folder.invariant in
    let ensures = c.in_ok-copy_folder.ensures in
    let next : c.copy_folder.new.copies ≡ with_value c.loop-folder.copies folder (get from folder) =
    ensures.copied ∙ ap (with_value c.loop-folder.copies folder) (copied_later before.1 folder) in (
      subst (λ (copies : ByName Held). IsFilled from (take (index + 1) names) copies) (sym next)
          (subst (λ (done : List Folder). IsFilled from done (with_value c.loop-folder.copies folder (get from folder)))
          (sym (done_with names index folder c.loop-folder-test.true c.folder-item.is))
          (filled_next nat_list_cmp_total exact_bytes from (take index names) folder c.loop-folder.copies before.0)),
      reread_after before.1 ensures.read,
      ensures.same ∙ before.2,
      ensures.fault ∙ sym (ap (λ (t : Trace). t.failed) c.requires.untold),
    )

pub returns-clause-copied : goal.returns-clause-copied
returns-clause-copied g c =
    let folders = c.args.self.now.folders in
    let names = c.args.names.now in
    let index = c.loop-folder.folder-index in
    let all = take_all index names (omega arith) ∙ c.requires.names ∙ sym (same_names folders) in
    all_filled nat_list_cmp_total exact_bytes (folders_copied folders) (take index names) c.loop-folder.copies all c.loop-folder.invariant.0
