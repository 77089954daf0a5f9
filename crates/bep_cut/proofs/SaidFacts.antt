-- The cut of a cluster says what the cluster does.
use Rattle.std.proofs.Common.{◌≡◌, ◌∙◌, Bool, true, false, cond, List, [], ◌∷◌, map, Option, Some, None, option_and_then, Contains, refl, ap, sym, subst, eqb-true}
use Rattle.std.specs.Ordering.{nat_cmp}
use Rattle.std.specs.Cmp.Lexicographic.{slice_cmp}
use Rattle.std.specs.FinMap.{get, get-empty}
use Rattle.std.specs.List.Sorted.{IsStrictlySortedBy}
use Rattle.std.proofs.lemmas.Map.Keys.{sorted_from_strictly_increasing}
use Rattle.bep_facts.specs.Members.{Contains-first, Contains-more}
use Rattle.bep_model.specs.Tables.{Device, Folder, FileName}
use Rattle.bep_machine.specs.Replica.{Replica, node_at, own_at, target_at, viewed_at}
use Rattle.bep_machine.specs.Said.{at_device, replica_said, tables_of_cluster}
use Rattle.bep_machine.specs.Sound.{IsSound, IsSoundReplica}
use Rattle.bep_peer.specs.Member.{Member}
use Rattle.bep_peer.specs.network.Agreed.{AreAgreed}
use Rattle.bep_peer.specs.network.Network.{Network, cluster_of, is_number, member_at, numbers_of, peer_of}
use Rattle.bep_tables.specs.declared.share.PeerView.{PeerView}
use Rattle.bep_tables.specs.declared.share.Share.{Share}
use Rattle.bep_tables.specs.Cut.{share_of, shares_of, tables_of, view_of}
use Rattle.bep_cut.specs.Cut.{seen, cut_at}
use Rattle.bep_cut.proofs.FoldersCut.{cuts}
use Rattle.bep_cut.proofs.PullsCut.{target_found}
use Rattle.bep_cut.proofs.SaidDevices.{said_share, said_sharing, said_there, there}
use Rattle.bep_cut.proofs.SaidFlights.{said_flying}
use Rattle.bep_cut.proofs.SaidRecords.{said_at, said_view}

-- a device that is found is one of them
listed : (members : List Member) (device : Device) (member : Member) → member_at members device ≡ Some member → Contains (numbers_of members) device
listed [] device member found = absurd (let e : None ≡ Some member = found in cc)
listed (first ∷ members) device member found = cases (is_number device first) refl (listed members device member) found where
  cases : (b : Bool) → is_number device first ≡ b → (member_at members device ≡ Some member → Contains (numbers_of members) device) → cond b (Some first) (member_at members device) ≡ Some member → Contains (numbers_of (first ∷ members)) device
  cases true same rest here = subst (Contains (numbers_of (first ∷ members))) (eqb-true first.number device same) (Contains-first first.number (numbers_of members))
  cases false apart rest later = Contains-more first.number (numbers_of members) device (rest later)

module _ (network : Network) (is : AreAgreed network) (sound : IsSound (cluster_of network)) where
  rise : IsStrictlySortedBy nat_cmp (numbers_of network.members)
  rise = sorted_from_strictly_increasing (numbers_of network.members) is.devices

  -- what is said of a folder at a device is sound
  sound_said : (device : Device) (folder : Folder) (replica : Replica) → replica_said (cluster_of network) device folder ≡ Some replica → IsSoundReplica device replica
  sound_said device folder replica said = cases (member_at network.members device) refl where
    found : there folder device network.members ≡ Some replica
    found = sym (said_there folder device network rise) ∙ said

    cases : (o : Option Member) → member_at network.members device ≡ o → IsSoundReplica device replica
    cases None none =
        absurd (let e : None ≡ Some replica = sym (ap (λ (o : Option Member). get (peer_of o).replicas folder) none ∙ get-empty (slice_cmp nat_cmp) folder) ∙ found in cc)
    cases (Some member) one = (sound.peers device (listed network.members device member one)).replicas folder replica found

  module _ (device : Device) (folder : Folder) (name : FileName) where
    abbrev found_share : Option Share
    found_share = share_of device (shares_of folder (cuts (map seen network.members)))

    own_said : option_and_then (λ (share : Share). get share.own name) found_share ≡ at_device own_at (cluster_of network) device folder name
    own_said = said_at (λ (share : Share). get share.own name) own_at device name found_share (replica_said (cluster_of network) device folder) (said_share folder device network rise) (λ replica said. refl)

    node_said : option_and_then (λ (share : Share). get share.store name) found_share ≡ at_device node_at (cluster_of network) device folder name
    node_said = said_at (λ (share : Share). get share.store name) node_at device name found_share (replica_said (cluster_of network) device folder) (said_share folder device network rise) (λ replica said. refl)

    target_said : option_and_then (λ (share : Share). get share.pulls name) found_share ≡ at_device target_at (cluster_of network) device folder name
    target_said =
        said_at (λ (share : Share). get share.pulls name) target_at device name found_share (replica_said (cluster_of network) device folder) (said_share folder device network rise)
        (λ replica said. target_found replica.pulls name)

    viewed_said : (other : Device) → option_and_then (λ (share : Share). option_and_then (λ (view : PeerView). get view.records name) (view_of other share.views)) found_share
        ≡ at_device (λ replica name. viewed_at replica other name) (cluster_of network) device folder name
    viewed_said other =
        said_at (λ (share : Share). option_and_then (λ (view : PeerView). get view.records name) (view_of other share.views)) (λ (replica : Replica) (name : FileName). viewed_at replica other name) device name found_share
        (replica_said (cluster_of network) device folder) (said_share folder device network rise)
        (λ replica said. said_view replica.views other replica.others name (λ view known.
        let view_is = (sound_said device folder replica said).views other view known in
        (view_is.view_of_index, view_is.shares)))

  pub cut_says : tables_of (cut_at network.members network.links) ≡ tables_of_cluster (cluster_of network)
  unfolding tables_of cut_at
  cut_says = λ i. record {
    sharing = λ folder. said_sharing network.members folder i;
    own = λ device folder name. own_said device folder name i;
    node = λ device folder name. node_said device folder name i;
    viewed = λ device other folder name. viewed_said device folder name other i;
    target = λ device folder name. target_said device folder name i;
    flying = λ from to. said_flying network is rise from to i;
  }
