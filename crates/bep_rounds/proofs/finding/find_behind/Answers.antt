use Rattle.std.proofs.Common.{◌≡◌, Contains, List, false, rules, subst, arith}
use Rattle.bep_model.specs.Tables.{Folder, FileName}
use Rattle.bep_machine.specs.Said.{tables_of_cluster}
use Rattle.bep_peer.specs.Member.{Member}
use Rattle.bep_peer.specs.network.Network.{cluster_of}
use Rattle.bep_converge.specs.Ended.{IsEnded}
use Rattle.bep_converge.specs.Prevails.{AllPrevail}
use Rattle.bep_rounds.specs.Finding.{NoneIsBehind}
use Rattle.bep_rounds.proofs.Searched.{found_here, none_anywhere, none_here}
use Rattle.bep_rounds.proofs.Walks.{member_at_place, so_of_each, so_of_next, so_of_none}
use Rattle.bep_rounds.proofs.finding.find_behind.Goals as goal

pub loop-peer-init : goal.loop-peer-init
loop-peer-init g c = so_of_none (λ (member : Member). (folder : Folder) (name : FileName) → NoneIsBehind (cluster_of c.args.cluster.now) member.number folder name) c.peers-members.result.now

pub behind_at-requires : goal.behind_at-requires
behind_at-requires g c =
    c.sharing_is_having.ensures.found c.args.cluster.now c.peer-item.result c.peers-members.ensures.a_network
    (subst (λ (members : List Member). Contains members c.peer-item.result) c.peers-members.ensures.value
    (member_at_place c.peers-members.result.now c.loop-peer.peer-index c.peer-item.result c.loop-peer-test.true c.peer-item.is))

pub loop-peer-preserved : goal.loop-peer-preserved
loop-peer-preserved g c =
    let cluster = cluster_of c.args.cluster.now in
    let told : c.is_some.result ≡ false = search rules in
    so_of_next (λ (member : Member). (folder : Folder) (name : FileName) → NoneIsBehind cluster member.number folder name) c.peers-members.result.now c.loop-peer.peer-index c.peer-item.result c.loop-peer-test.true c.peer-item.is
    (none_here cluster ((folder : Folder) (name : FileName) → NoneIsBehind cluster c.peer-item.result.number folder name) c.in_ok-found.found c.is_some.result c.is_some.ensures told c.in_ok-found.ensures)
    c.loop-peer.invariant

pub returns-then-is_some : goal.returns-then-is_some
returns-then-is_some g c =
    let cluster = cluster_of c.args.cluster.now in
    found_here cluster ((folder : Folder) (name : FileName) → NoneIsBehind cluster c.peer-item.result.number folder name)
    (AllPrevail (tables_of_cluster cluster) → IsEnded (tables_of_cluster cluster)) c.in_ok-found.found c.is_some.result c.is_some.ensures c.if-is_some.true c.in_ok-found.ensures

pub returns : goal.returns
returns g c =
    let cluster = cluster_of c.args.cluster.now in
    let P = λ (member : Member). (folder : Folder) (name : FileName) → NoneIsBehind cluster member.number folder name in
    none_anywhere c.args.cluster.now
    (subst (λ (members : List Member). (member : Member) → Contains members member → P member) c.peers-members.ensures.value
    (so_of_each P c.peers-members.result.now c.loop-peer.peer-index (omega arith) c.loop-peer.invariant))
