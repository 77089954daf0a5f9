use Rattle.std.proofs.Common.{◌≡◌, List, [], ◌∷◌, ◌++◌, Some, sym, ap, ◌∙◌}
use Rattle.std.proofs.lemmas.List.{append-nil}
use Rattle.std.specs.FinMap.{get}
use Rattle.bep_tables.specs.declared.share.Share.{Share}
use Rattle.bep_cut.proofs.FolderFacts.{no_share, none_sound, one_share, one_sound}
use Rattle.bep_cut.proofs.folder.add_read.Goals as goal

pub returns-in_ok-push-in-Some-clause-share : goal.returns-in_ok-push-in-Some-clause-share
returns-in_ok-push-in-Some-clause-share g c =
    let held = c.in-Some.replica.now in
    let there : get c.args.peer.now.folders c.args.folder.now ≡ Some held = sym c.in-Some.ensures in
    let own = (c.folders.ensures.own c.args.folder.now held there).0 in
    c.in_ok-push-in-Some.ensures.items
    ∙ ap (λ (more : List Share). c.args.shares.now.items ++ more)
    (ap (λ (one : Share). one ∷ []) c.in_ok-share_cut-in-Some.ensures.share ∙ sym (one_share c.tables_are_found.ensures.found c.args.peer.now c.args.folder.now held there own))

pub returns-in_ok-push-in-Some-clause-sound : goal.returns-in_ok-push-in-Some-clause-sound
returns-in_ok-push-in-Some-clause-sound g c =
    let held = c.in-Some.replica.now in
    let there : get c.args.peer.now.folders c.args.folder.now ≡ Some held = sym c.in-Some.ensures in
    let own = (c.folders.ensures.own c.args.folder.now held there).0 in
    one_sound c.tables_are_found.ensures.found c.args.peer.now c.args.folder.now held there own c.in_ok-share_cut-in-Some.ensures.sound

pub returns-in-None-clause-share : goal.returns-in-None-clause-share
returns-in-None-clause-share g c =
    sym (append-nil c.args.shares.now.items)
    ∙ ap (λ (more : List Share). c.args.shares.now.items ++ more) (sym (no_share c.tables_are_found.ensures.found c.args.peer.now c.args.folder.now (sym c.in-None.ensures)))

pub returns-in-None-clause-sound : goal.returns-in-None-clause-sound
returns-in-None-clause-sound g c = none_sound c.tables_are_found.ensures.found c.args.peer.now c.args.folder.now (sym c.in-None.ensures)
