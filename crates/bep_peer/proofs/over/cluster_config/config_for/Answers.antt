use Rattle.std.proofs.Common.{List, ◌++◌, flat_map, sym, ap, ◌∙◌}
use Rattle.std.proofs.lemmas.List.{append_assoc}
use Rattle.bep_model.specs.Tables.{Folder}
use Rattle.bep_machine.specs.declared.message.Announced.{Announced}
use Rattle.bep_folder.specs.Held.{Held}
use Rattle.bep_peer.specs.inner.ClusterConfig.{said_of}
use Rattle.bep_peer.proofs.over.cluster_config.config_for.Goals as goal

pub loop-folder-preserved : goal.loop-folder-preserved
loop-folder-preserved g c =
    let said = said_of c.args.other in
    let named = c.loop-folder.named.items in
    let left = c.next.new.self in
    ap (λ (all : List Announced). all ++ flat_map said left) c.in_ok-name_in.ensures
    ∙ append_assoc named (said (c.in-Some.folder.now, c.in-Some.replica.now)) (flat_map said left)
    ∙ ap (λ (rest : List (Folder × Held)). named ++ flat_map said rest) (sym c.in-Some.ensures.steps)
    ∙ c.loop-folder.invariant
