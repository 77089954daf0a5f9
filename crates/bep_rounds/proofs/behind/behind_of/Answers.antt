use Rattle.std.proofs.Common.{◌≡◌, ◌∙◌, true, false, List, Contains, Some, rules, sym, subst₂}
use Rattle.bep_model.specs.Tables.{Device, Folder}
use Rattle.bep_machine.specs.Said.{tables_of_cluster}
use Rattle.bep_peer.specs.network.Network.{cluster_of}
use Rattle.bep_converge.specs.Prevails.{IsAtTop}
use Rattle.bep_rounds.specs.Finding.{IsUpTo}
use Rattle.bep_rounds.proofs.Owned.{fits, own_told}
use Rattle.bep_rounds.proofs.Rounds.{is_not_so, is_so}
use Rattle.bep_rounds.proofs.Tops.{behind_here, none_above, none_below}
use Rattle.bep_rounds.proofs.behind.behind_of.Goals as goal

pub returns-in-None-clause-none : goal.returns-in-None-clause-none
returns-in-None-clause-none g c =
    let network = c.args.cluster.now in
    let held = c.args.replica.now in
    let top = c.args.top.now in
    let own = own_told network c.cluster_is_sound.ensures held.device held.folder top.name (Some held.tables) (sym c.requires.held) ∙ c.requires.own in
    none_below (cluster_of network) held.device held.folder held.tables (fits network c.cluster_is_sound.ensures held.device held.folder held.tables c.requires.held) top own
    (subst₂ (λ (others : List Device) (folder : Folder). (device : Device) → Contains others device → IsAtTop ((tables_of_cluster (cluster_of network)).own device folder top.name) top) c.others-sharing.ensures.value c.folder-folder.ensures c.in-None.ensures.none)

pub returns-then-not-are_up_to-clause-none : goal.returns-then-not-are_up_to-clause-none
returns-then-not-are_up_to-clause-none g c =
    let network = c.args.cluster.now in
    let held = c.args.replica.now in
    let top = c.args.top.now in
    let own = own_told network c.cluster_is_sound.ensures held.device held.folder top.name (Some held.tables) (sym c.requires.held) ∙ c.requires.own in
    let told : c.are_up_to.result ≡ false = search rules in
    none_above (cluster_of network) held.device held.folder held.tables (fits network c.cluster_is_sound.ensures held.device held.folder held.tables c.requires.held) top own
    (subst₂ (λ (others : List Device) (folder : Folder). ¬ ((device : Device) → Contains others device → IsUpTo ((tables_of_cluster (cluster_of network)).own device folder top.name) top)) c.others-sharing.ensures.value c.folder-folder.ensures
    (is_not_so ((device : Device) → Contains c.others-sharing.result.now device → IsUpTo ((tables_of_cluster (cluster_of network)).own device c.folder-folder.result.now top.name) top) c.are_up_to.result c.are_up_to.ensures told))

pub returns-clause-some : goal.returns-clause-some
returns-clause-some g c =
    let network = c.args.cluster.now in
    let held = c.args.replica.now in
    let top = c.args.top.now in
    let own = own_told network c.cluster_is_sound.ensures held.device held.folder top.name (Some held.tables) (sym c.requires.held) ∙ c.requires.own in
    let told : c.are_up_to.result ≡ true = search rules in
    let at = subst₂ (λ (others : List Device) (folder : Folder). Contains others c.in-Some.device × ¬ IsAtTop ((tables_of_cluster (cluster_of network)).own c.in-Some.device folder top.name) top) c.others-sharing.ensures.value c.folder-folder.ensures
    (c.in-Some.ensures.listed, c.in-Some.ensures.below) in
    behind_here (cluster_of network) held.device held.folder held.tables (fits network c.cluster_is_sound.ensures held.device held.folder held.tables c.requires.held) top own c.in-Some.device at.0 at.1
    (subst₂ (λ (others : List Device) (folder : Folder). (device : Device) → Contains others device → IsUpTo ((tables_of_cluster (cluster_of network)).own device folder top.name) top) c.others-sharing.ensures.value c.folder-folder.ensures
    (is_so ((device : Device) → Contains c.others-sharing.result.now device → IsUpTo ((tables_of_cluster (cluster_of network)).own device c.folder-folder.result.now top.name) top) c.are_up_to.result c.are_up_to.ensures told))
