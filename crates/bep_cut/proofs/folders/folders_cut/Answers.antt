use Rattle.std.proofs.Common.{◌≡◌, List, [], ◌∷◌, ◌++◌, map, sym, ap, subst, ◌∙◌}
use Rattle.std.specs.List.{AllByRecursion}
use Rattle.std.proofs.lemmas.List.{append_assoc}
use Rattle.bep_model.specs.Tables.{Folder}
use Rattle.bep_tables.specs.declared.share.SharedFolder.{SharedFolder}
use Rattle.bep_cut.specs.Cut.{AreSoundIn, Seen, folder_cut, seen}
use Rattle.bep_cut.proofs.folders.folders_cut.Goals as goal

pub loop-name-preserved : goal.loop-name-preserved
loop-name-preserved g c =
    let first = map seen c.args.peers.now in
    let before = c.loop-name.invariant in
    let name = c.in-Some.name.now in
    let left = map (λ (e : Folder × Unit {0}). e.0) c.next.new.self in
    let made = c.loop-name.made.items in
    let names : map (λ (e : Folder × Unit {0}). e.0) c.loop-name.name-iterator ≡ name ∷ left = ap (map (λ (e : Folder × Unit {0}). e.0)) c.in-Some.ensures.steps in
    let one : c.in_ok-folder_cut.field-0 ≡ folder_cut first name = c.in_ok-folder_cut.ensures.folder ∙ ap (λ (all : List Seen). folder_cut all name) before.same in
    let sound = subst (λ (all : List Seen). AreSoundIn all name) before.same c.in_ok-folder_cut.ensures.sound in
    record {
      same = c.in_ok-folder_cut.ensures.seen ∙ before.same;
      linked = c.in_ok-folder_cut.ensures.linked ∙ before.linked;
      counts = c.in_ok-folder_cut.ensures.counts ∙ before.counts;
      made =
          ap (λ (all : List SharedFolder). all ++ map (folder_cut first) left) c.in_ok-push.ensures.items
          ∙ append_assoc made (c.in_ok-folder_cut.field-0 ∷ []) (map (folder_cut first) left)
          ∙ ap (λ (x : SharedFolder). made ++ x ∷ map (folder_cut first) left) one
          ∙ ap (λ (l : List Folder). made ++ map (folder_cut first) l) (sym names)
          ∙ before.made;
      each = λ later. before.each (subst (AllByRecursion (AreSoundIn first)) (sym names) (sound, later));
    }
