use Rattle.std.proofs.Common.{◌≡◌, ◌∙◌, false, rules, ap}
use Rattle.std.specs.FinMap.{entries}
use Rattle.bep_model.specs.Tables.{Folder, FileName}
use Rattle.bep_folder.specs.Held.{Held}
use Rattle.bep_peer.specs.network.Network.{cluster_of}
use Rattle.bep_rounds.specs.Finding.{NoneIsBehind}
use Rattle.bep_rounds.proofs.Searched.{found_here, held_there, none_here, none_in_any, none_in_it}
use Rattle.bep_rounds.proofs.Walks.{all_left, fewer_left, next_is_among, none_left}
use Rattle.bep_rounds.proofs.finding.behind_at.Goals as goal

pub loop-folder-init : goal.loop-folder-init
loop-folder-init g c =
    all_left (λ (one : Folder × Held). (name : FileName) → NoneIsBehind (cluster_of c.args.cluster.now) c.args.peer.now.number one.0 name) (entries c.args.peer.now.folders) c.into_iter-folder-iterator.result
    (c.into_iter-folder-iterator.ensures.into_iter_gives ∙ c.iter-folder-items.ensures ∙ ap entries c.folders.ensures.value)

pub behind_in-requires : goal.behind_in-requires
behind_in-requires g c =
    let peer = c.args.peer.now in
    let one : Folder × Held = (c.in-Some._folder.now, c.in-Some.replica.now) in
    held_there peer c.folders.ensures.own one
    (next_is_among (λ (one : Folder × Held). (name : FileName) → NoneIsBehind (cluster_of c.args.cluster.now) peer.number one.0 name) (entries peer.folders) c.loop-folder._folder-iterator c.next.new.self one c.in-Some.ensures.steps c.loop-folder.invariant)
    c.tables_are_found.ensures.found c.args.cluster.now c.requires

pub loop-folder-preserved : goal.loop-folder-preserved
loop-folder-preserved g c =
    let cluster = cluster_of c.args.cluster.now in
    let peer = c.args.peer.now in
    let one : Folder × Held = (c.in-Some._folder.now, c.in-Some.replica.now) in
    let P = λ (one : Folder × Held). (name : FileName) → NoneIsBehind cluster peer.number one.0 name in
    let told : c.is_some.result ≡ false = search rules in
    fewer_left P (entries peer.folders) c.loop-folder._folder-iterator c.next.new.self one c.in-Some.ensures.steps
    (none_in_it peer c.folders.ensures.own one (next_is_among P (entries peer.folders) c.loop-folder._folder-iterator c.next.new.self one c.in-Some.ensures.steps c.loop-folder.invariant) cluster
    (none_here cluster ((name : FileName) → NoneIsBehind cluster c.in-Some.replica.now.device c.in-Some.replica.now.folder name) c.in_ok-found.found c.is_some.result c.is_some.ensures told c.in_ok-found.ensures))
    c.loop-folder.invariant

pub returns-then-is_some : goal.returns-then-is_some
returns-then-is_some g c =
    let cluster = cluster_of c.args.cluster.now in
    found_here cluster ((name : FileName) → NoneIsBehind cluster c.in-Some.replica.now.device c.in-Some.replica.now.folder name)
    ((folder : Folder) (name : FileName) → NoneIsBehind cluster c.args.peer.now.number folder name) c.in_ok-found.found c.is_some.result c.is_some.ensures c.if-is_some.true c.in_ok-found.ensures

pub returns : goal.returns
returns g c =
    none_in_any c.tables_are_found.ensures.found c.args.cluster.now c.args.peer.now c.requires
    (none_left (λ (one : Folder × Held). (name : FileName) → NoneIsBehind (cluster_of c.args.cluster.now) c.args.peer.now.number one.0 name) (entries c.args.peer.now.folders) c.loop-folder._folder-iterator c.in-None.ensures.steps.0 c.loop-folder.invariant)
