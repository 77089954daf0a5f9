-- What was found where all devices, their folders and the records in them were walked through.
use Rattle.std.proofs.Common.{◌≡◌, ◌∙◌, Bool, true, false, is_some, Option, option_map, Some, None, Contains, refl, sym, subst, subst₂}
use Rattle.std.specs.Cmp.Lexicographic.{nat_list_cmp_total}
use Rattle.std.specs.FinMap.{get, entries}
use Rattle.std.proofs.lemmas.Map.Lookups.{exact_bytes}
use Rattle.bep_facts.specs.Entries.{entry_stands}
use Rattle.bep_model.specs.Tables.{Device, Folder, FileName}
use Rattle.bep_machine.specs.Cluster.{Cluster}
use Rattle.bep_machine.specs.Replica.{Replica}
use Rattle.bep_machine.specs.Said.{tables_of_cluster}
use Rattle.bep_folder.specs.Held.{Held}
use Rattle.bep_peer.specs.Laws.{TablesAreFound}
use Rattle.bep_peer.specs.Member.{Member, AreOwn}
use Rattle.bep_peer.specs.network.Network.{Network, cluster_of, member_at}
use Rattle.bep_peer.proofs.Members.{has_number}
use Rattle.bep_converge.specs.Ended.{IsEnded}
use Rattle.bep_converge.specs.Prevails.{AllPrevail}
use Rattle.bep_rounds.specs.Finding.{IsFound, NoneIsBehind}
use Rattle.bep_rounds.specs.declared.wanted.Wanted.{Wanted}
use Rattle.bep_rounds.proofs.Owned.{member_of}
use Rattle.bep_rounds.proofs.Seen.{owned_replica, peer_has}

-- ---- what a part of the search tells the whole

pub found_here : (c : Cluster) (One Two : Type 0) (found : Option Wanted) (some : Bool) → some ≡ is_some found → some ≡ true → IsFound c found One → IsFound c found Two
found_here c One Two None some is told so = absurd (let never : true ≡ false = sym told ∙ is in cc)
found_here c One Two (Some wanted) some is told so = so

pub none_here : (c : Cluster) (One : Type 0) (found : Option Wanted) (some : Bool) → some ≡ is_some found → some ≡ false → IsFound c found One → One
none_here c One None some is told so = so
none_here c One (Some wanted) some is told so = absurd (let never : false ≡ true = sym told ∙ is in cc)

-- ---- the folders of one device

module _ (member : Member) (own : AreOwn member.number member.folders) (one : Folder × Held) (stands : Contains (entries member.folders) one) where
  found_by_name : get member.folders one.0 ≡ Some one.1
  found_by_name = (entry_stands nat_list_cmp_total exact_bytes member.folders one.0 one.1).1 stands

  -- the cluster has it there
  pub held_there : TablesAreFound → (network : Network) → member_at network.members member.number ≡ Some member → get ((cluster_of network).peer one.1.device).replicas one.1.folder ≡ Some one.1.tables
  held_there found network there =
      let its = own one.0 one.1 found_by_name in
      subst₂ (λ (device : Device) (folder : Folder). get ((cluster_of network).peer device).replicas folder ≡ Some one.1.tables) (sym its.0) (sym its.1)
      (sym (peer_has found network.members member.number one.0 member (Some one.1) (sym there) (sym found_by_name)))

  pub none_in_it : (c : Cluster) → ((name : FileName) → NoneIsBehind c one.1.device one.1.folder name) → (name : FileName) → NoneIsBehind c member.number one.0 name
  none_in_it c none =
      let its = own one.0 one.1 found_by_name in
      subst₂ (λ (device : Device) (folder : Folder). (name : FileName) → NoneIsBehind c device folder name) its.0 its.1 none

held_of : (o : Option Held) (replica : Replica) → option_map (λ (h : Held). h.tables) o ≡ Some replica → (held : Held) × (o ≡ Some held)
held_of None replica is = absurd (cc)
held_of (Some held) replica is = (held, refl)

-- and where it has no folder it has no record
pub none_in_any : TablesAreFound → (network : Network) (member : Member) → member_at network.members member.number ≡ Some member →
    ((one : Folder × Held) → Contains (entries member.folders) one → (name : FileName) → NoneIsBehind (cluster_of network) member.number one.0 name) →
    (folder : Folder) (name : FileName) → NoneIsBehind (cluster_of network) member.number folder name
none_in_any found network member there each folder name top prevails owned =
    let had = owned_replica (cluster_of network) member.number folder name top owned in
    let held = held_of (get member.folders folder) had.0 (peer_has found network.members member.number folder member (get member.folders folder) (sym there) refl ∙ had.1) in
    each (folder, held.0) ((entry_stands nat_list_cmp_total exact_bytes member.folders folder held.0).0 held.1) name top prevails owned

-- ---- all devices

pub none_anywhere : (network : Network) → ((member : Member) → Contains network.members member → (folder : Folder) (name : FileName) → NoneIsBehind (cluster_of network) member.number folder name) →
    AllPrevail (tables_of_cluster (cluster_of network)) → IsEnded (tables_of_cluster (cluster_of network))
none_anywhere network each all = record {
  all = all;
  at_top = λ folder name top prevails device shares.
      let owner = prevails.top_of.owner in
      let owned = prevails.top_of.owned.0 in
      let had = owned_replica (cluster_of network) owner folder name top owned in
      let there = member_of network owner folder had.0 had.1 in
      let its = has_number network.members owner there.0 there.1 in
      subst (λ (d : Device). NoneIsBehind (cluster_of network) d folder name) its.0 (each there.0 its.1 folder name) top prevails owned device shares;
}
