-- In a sound cluster only finitely many names are known, and only its own devices are viewed.
use Rattle.std.proofs.Common.{◌≡◌, ◌++◌, List, [], map, Option, Some, None, IsSome, Contains, refl, sym, subst, ⊎_elim, unwrap_or}
use Rattle.std.proofs.lemmas.List.Elements.{Contains-append_left, Contains-append_right}
use Rattle.std.specs.List.{flat_map}
use Rattle.std.specs.Ordering.{nat_cmp}
use Rattle.std.specs.Cmp.Lexicographic.{slice_cmp, nat_list_cmp_total}
use Rattle.std.proofs.lemmas.Map.Lookups.{exact_bytes}
use Rattle.std.specs.FinMap.{get, keys, get-empty}
use Rattle.bep_facts.specs.Members.{Contains-flat_map, Contains-image}
use Rattle.bep_facts.specs.Maps.{key_has_value}
use Rattle.bep_map.specs.NameMap.{ByName}
use Rattle.bep_record.specs.declared.entry.Entry.{Entry}
use Rattle.bep_index.specs.Listing.{Listing}
use Rattle.bep_index.specs.View.{cleared}
use Rattle.bep_model.specs.declared.flight.Flight.{Flight}
use Rattle.bep_model.specs.Tables.{Device, Folder, FileName}
use Rattle.bep_model.specs.Foreign.{IsFlying, IsForeign, HasTrace}
use Rattle.bep_machine.specs.Replica.{Replica, Pull, own_at, node_at, pull_at, target_at, view_of, viewed_at}
use Rattle.bep_machine.specs.Peer.{Peer}
use Rattle.bep_machine.specs.Cluster.{Cluster}
use Rattle.bep_machine.specs.Steps.{SharesFolder}
use Rattle.bep_machine.specs.Said.{looked_up, replica_said, on_its_way, tables_of_cluster}
use Rattle.bep_machine.specs.Sound.{IsSound}
use Rattle.bep_machine.specs.Laws.{ClusterIsFinite}
use Rattle.bep_machine.proofs.SaidReplicas.{shared_where_said}

-- ---- the names of which something is there

abbrev names_in : List Device → Replica → List FileName
names_in devices replica =
    keys replica.store ++ (keys replica.index.records ++ (keys replica.pulls ++ flat_map (λ other. keys (view_of replica other).records) devices))

abbrev places_in : List Device → Folder → Option Replica → List (Folder × FileName)
places_in devices folder None = []
places_in devices folder (Some replica) = map (λ name. (folder, name)) (names_in devices replica)

abbrev places_at : List Device → Peer → List (Folder × FileName)
places_at devices peer = flat_map (λ folder. places_in devices folder (get peer.replicas folder)) (keys peer.replicas)

abbrev places_of : Flight → List (Folder × FileName)
places_of flight = map (λ entry. (flight.folder, entry.name)) flight.records

abbrev places_to : Cluster → Device → List (Folder × FileName)
places_to cluster device = flat_map (λ sender. flat_map places_of (on_its_way cluster sender device)) cluster.config.devices

abbrev all_places : Cluster → List (Folder × FileName)
all_places cluster = flat_map (λ device. places_at cluster.config.devices (cluster.peer device) ++ places_to cluster device) cluster.config.devices

-- ---- each is listed

has_key : {V : Type 0} (m : ByName V) (name : FileName) → IsSome (get m name) → Contains (keys m) name
has_key m name has = (key_has_value nat_list_cmp_total exact_bytes m name).1 has

some_has : {X : Type 0} {o : Option X} {x : X} → o ≡ Some x → IsSome o
some_has is = subst IsSome (sym is) refl

module _ (devices : List Device) (replica : Replica) (name : FileName) where
  node_listed : IsSome (node_at replica name) → Contains (names_in devices replica) name
  node_listed has = Contains-append_left (keys replica.store) _ name (has_key replica.store name has)

  after_nodes : Contains (keys replica.index.records ++ (keys replica.pulls ++ flat_map (λ other. keys (view_of replica other).records) devices)) name → Contains (names_in devices replica) name
  after_nodes = Contains-append_right (keys replica.store) _ name

  own_listed : IsSome (own_at replica name) → Contains (names_in devices replica) name
  own_listed has = after_nodes (Contains-append_left (keys replica.index.records) _ name (has_key replica.index.records name has))

  after_records : Contains (keys replica.pulls ++ flat_map (λ other. keys (view_of replica other).records) devices) name → Contains (names_in devices replica) name
  after_records stands = after_nodes (Contains-append_right (keys replica.index.records) _ name stands)

  target_listed : IsSome (target_at replica name) → Contains (names_in devices replica) name
  target_listed has = after_records (Contains-append_left (keys replica.pulls) _ name (has_key replica.pulls name (by_pull (pull_at replica name) refl has)))
    where
      by_pull : (pull : Option Pull) → pull_at replica name ≡ pull → IsSome (target_at replica name) → IsSome (pull_at replica name)
      by_pull None is has = absurd (cc)
      by_pull (Some pull) is has = some_has is

  viewed_listed : (other : Device) → Contains devices other → IsSome (viewed_at replica other name) → Contains (names_in devices replica) name
  viewed_listed other member has =
      after_records (Contains-append_right (keys replica.pulls) _ name (Contains-flat_map (λ one. keys (view_of replica one).records) devices other name member (has_key (view_of replica other).records name has)))

module _ (cluster : Cluster) (sound : IsSound cluster) where
  shares_there : (device : Device) (folder : Folder) → SharesFolder cluster.config device folder → Contains cluster.config.devices device
  shares_there device folder shares = sound.config.sharing folder device shares

  place_listed : (device : Device) (folder : Folder) (replica : Replica) (name : FileName) → Contains cluster.config.devices device → get (cluster.peer device).replicas folder ≡ Some replica → Contains (names_in cluster.config.devices replica) name → Contains (all_places cluster) (folder, name)
  place_listed device folder replica name member there listed =
      Contains-flat_map (λ one. places_at cluster.config.devices (cluster.peer one) ++ places_to cluster one) cluster.config.devices device (folder, name) member
      (Contains-append_left (places_at cluster.config.devices (cluster.peer device)) (places_to cluster device) (folder, name)
      (Contains-flat_map (λ one. places_in cluster.config.devices one (get (cluster.peer device).replicas one)) (keys (cluster.peer device).replicas) folder (folder, name)
      (has_key (cluster.peer device).replicas folder (some_has there))
      (subst (λ (found : Option Replica). Contains (places_in cluster.config.devices folder found) (folder, name)) (sym there)
      (Contains-image (λ one. (folder, one)) (names_in cluster.config.devices replica) name listed))))

  -- a view is of a device of the cluster
  viewed_is_there : (device other : Device) (folder : Folder) (replica : Replica) (name : FileName) → Contains cluster.config.devices device → get (cluster.peer device).replicas folder ≡ Some replica → IsSome (viewed_at replica other name) → Contains cluster.config.devices other
  viewed_is_there device other folder replica name member there has = by_view (get replica.views other) refl has
    where
      by_view : (view : Option Listing) → get replica.views other ≡ view → IsSome (get (unwrap_or view (cleared 0)).records name) → Contains cluster.config.devices other
      by_view None is has = absurd (let none = get-empty {X = Entry} (slice_cmp nat_cmp) name in cc)
      by_view (Some view) is has =
          let peer = sound.peers device member in
          let shares = ((peer.replicas folder replica there).views other view is).shares in
          shares_there other folder (((peer.fit folder replica there).others other).0 shares).1

  -- what the tables say of a device at a name is listed
  said_listed : {X : Type 0} (look : Replica → FileName → Option X) → ((device : Device) (folder : Folder) (replica : Replica) (name : FileName) → Contains cluster.config.devices device → get (cluster.peer device).replicas folder ≡ Some replica → IsSome (look replica name) → Contains (names_in cluster.config.devices replica) name) →
      (device : Device) (folder : Folder) (name : FileName) → IsSome (looked_up look name (replica_said cluster device folder)) → Contains (all_places cluster) (folder, name)
  said_listed look listed device folder name has =
      let said = shared_where_said look cluster device folder name has in
      let member = shares_there device folder said.0 in
      place_listed device folder said.1.0 name member said.1.1 (listed device folder said.1.0 name member said.1.1 said.1.2)

  flying_listed : (device : Device) (folder : Folder) (name : FileName) (entry : Entry) → Contains cluster.config.devices device → IsFlying (tables_of_cluster cluster) device folder name entry → Contains (all_places cluster) (folder, name)
  flying_listed device folder name entry member flying =
      Contains-flat_map (λ one. places_at cluster.config.devices (cluster.peer one) ++ places_to cluster one) cluster.config.devices device (folder, name) member
      (Contains-append_right (places_at cluster.config.devices (cluster.peer device)) (places_to cluster device) (folder, name)
      (Contains-flat_map (λ sender. flat_map places_of (on_its_way cluster sender device)) cluster.config.devices flying.sender (folder, name) (shares_there flying.sender folder flying.shares)
      (Contains-flat_map places_of (on_its_way cluster flying.sender device) flying.flight (folder, name) flying.sent
      (subst (λ (f : Folder). Contains (places_of flying.flight) (f, name)) flying.same_folder
      (subst (λ (n : FileName). Contains (places_of flying.flight) (flying.flight.folder, n)) flying.same_name
      (Contains-image (λ (one : Entry). (flying.flight.folder, one.name)) flying.flight.records entry flying.carried))))))

  foreign_listed : (device : Device) (folder : Folder) (name : FileName) (entry : Entry) → Contains cluster.config.devices device → IsForeign (tables_of_cluster cluster) device folder name entry → Contains (all_places cluster) (folder, name)
  foreign_listed device folder name entry member foreign =
      ⊎_elim
      (λ viewed.
      said_listed (λ replica name. viewed_at replica viewed.0 name)
      (λ one in_folder replica at_name there is has. viewed_listed cluster.config.devices replica at_name viewed.0 (viewed_is_there one viewed.0 in_folder replica at_name there is has) has)
      device folder name (some_has viewed.1))
      (λ rest.
      ⊎_elim
      (λ flying. flying_listed device folder name entry member flying)
      (λ target. said_listed target_at (λ one in_folder replica at_name there is has. target_listed cluster.config.devices replica at_name has) device folder name (some_has target))
      rest)
      foreign.known_by

  trace_listed : (device : Device) (folder : Folder) (name : FileName) → Contains cluster.config.devices device → HasTrace (tables_of_cluster cluster) device folder name → Contains (all_places cluster) (folder, name)
  trace_listed device folder name member trace =
      ⊎_elim
      (λ node. said_listed node_at (λ one in_folder replica at_name there is has. node_listed cluster.config.devices replica at_name has) device folder name node)
      (λ rest.
      ⊎_elim
      (λ own. said_listed own_at (λ one in_folder replica at_name there is has. own_listed cluster.config.devices replica at_name has) device folder name own)
      (λ foreign. foreign_listed device folder name foreign.0 member foreign.1)
      rest)
      trace

-- ---- the law

pub cluster_is_finite : ClusterIsFinite
cluster_is_finite cluster sound = record {
  viewed = cluster.config.devices;
  names = all_places cluster;
  all_viewed = λ device other folder name has.
      let said = shared_where_said (λ replica name. viewed_at replica other name) cluster device folder name has in
      viewed_is_there cluster sound device other folder said.1.0 name (shares_there cluster sound device folder said.0) said.1.1 said.1.2;
  all_known = λ folder name known. trace_listed cluster sound known.0 folder name (shares_there cluster sound known.0 folder known.1) known.2;
}
