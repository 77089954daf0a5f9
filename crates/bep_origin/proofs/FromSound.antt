-- The cluster that a cut is of is sound.
use Rattle.std.proofs.Common.{◌≡◌, ◌≢◌, ◌↔◌, ◌<◌, ◌≤◌, ◌==◌, ◌∙◌, true≢false, Bool, true, false, not, List, [], ◌∷◌, map, length, Option, Some, None, IsSome, is_some, option_map, Contains, All, refl, ap, sym, subst, eqb-true, arith, ⊎_elim}
use Rattle.std.specs.Ordering.{nat_cmp}
use Rattle.std.specs.Cmp.{nat_cmp_total}
use Rattle.std.specs.Cmp.Lexicographic.{slice_cmp, nat_list_cmp_total}
use Rattle.std.specs.FinMap.{entries, from_entries, get, len, len-entries, values}
use Rattle.std.specs.List.{AllByRecursion, filter, flat_map}
use Rattle.std.specs.List.Sorted.{IsStrictlySortedBy}
use Rattle.std.proofs.lemmas.Bool.Decides.{nat_tests}
use Rattle.std.proofs.lemmas.List.{length-map}
use Rattle.std.proofs.lemmas.List.Elements.{All-contains}
use Rattle.std.proofs.lemmas.Map.Lookups.{exact_bytes}
use Rattle.bep_facts.specs.Entries.{entry_stands}
use Rattle.bep_facts.specs.Maps.{nothing_in_empty}
use Rattle.bep_facts.specs.Members.{not_in_none, Contains-first, Contains-flat_map, Contains-from_flat_map, Contains-from_image, Contains-image, holds_of_member}
use Rattle.bep_map.specs.NameMap.{ByName}
use Rattle.bep_record.specs.declared.block.Block.{Block}
use Rattle.bep_record.specs.declared.entry.Entry.{Entry}
use Rattle.bep_record.specs.declared.folder_kind.FolderKind.{FolderKind}
use Rattle.bep_record.specs.declared.limits.TheConstants.{MAX_MESSAGES, MAX_PULLS}
use Rattle.bep_record.specs.declared.node.NodeParts.{NodeParts}
use Rattle.bep_record.specs.Node.{IsNode}
use Rattle.bep_index.specs.Batch.{IsBatch}
use Rattle.bep_index.specs.Index.{IsIndex}
use Rattle.bep_index.specs.Laws.{AmongIsContained}
use Rattle.bep_index.specs.Listing.{Listing}
use Rattle.bep_model.specs.declared.flight.Flight.{Flight}
use Rattle.bep_model.specs.Tables.{Device, Folder, FileName}
use Rattle.bep_machine.specs.declared.message.Message.{Message}
use Rattle.bep_machine.specs.Pull.{new_pull}
use Rattle.bep_machine.specs.Replica.{Pull, Replica}
use Rattle.bep_index.specs.Good.{AllGood, AreGood, IsGood}
use Rattle.bep_machine.specs.Sound.{AreReceived, FitsFolder, IsSound, IsSoundConfig, IsSoundLink, IsSoundMessage, IsSoundPeer, IsSoundPull, IsSoundQueue, IsSoundReplica, IsSoundView}
use Rattle.bep_machine.specs.Steps.{SharesFolder}
use Rattle.bep_tables.specs.Kept.{from_kept, kept}
use Rattle.bep_tables.specs.declared.cut.CutParts.{CutParts}
use Rattle.bep_tables.specs.declared.link.LinkState.{LinkState}
use Rattle.bep_tables.specs.declared.share.PeerView.{PeerView}
use Rattle.bep_tables.specs.declared.share.Share.{Share}
use Rattle.bep_tables.specs.declared.share.SharedFolder.{SharedFolder}
use Rattle.bep_tables.specs.Cut.{ArePulls, AreShares, AreViews, HasDevice, IsCut, IsFlight, IsLink, devices_of, ends_of, index_of, known_of, link_of, share_of, shares_of}
use Rattle.bep_origin.specs.FromCut.{AreGoodRecords, IsGoodCut, IsGoodFlight, IsGoodFolder, IsGoodShare, IsGoodState, IsGoodView, cluster_from, config_from, link_from, message_from, message_of, others_in, pulls_from, replica_from, replicas_from, view_from}
use Rattle.bep_origin.proofs.FromFlights.{joined}
use Rattle.bep_origin.proofs.FromReplicas.{found_replica, found_shares, share_of_one, share_there}
use Rattle.bep_origin.proofs.FromTables.{few_listed, pull_found, view_found}

-- ---- maps

-- what holds of the values holds of one that is found
good_records : (records : ByName Entry) → AreGoodRecords records → AreGood records
good_records records all name entry is =
    holds_of_member IsGood (values records) entry all
    (Contains-image (λ (one : FileName × Entry). one.1) (entries records) (name, entry) ((entry_stands nat_list_cmp_total exact_bytes records name entry).0 is))

are_nodes : (nodes : ByName NodeParts) → AllByRecursion IsNode (values nodes) → (name : FileName) (node : NodeParts) → get nodes name ≡ Some node → IsNode node
are_nodes nodes all name node is =
    holds_of_member IsNode (values nodes) node all
    (Contains-image (λ (one : FileName × NodeParts). one.1) (entries nodes) (name, node) ((entry_stands nat_list_cmp_total exact_bytes nodes name node).0 is))

-- ---- a pull without blocks

none_received : (blocks : List Block) → AreReceived blocks (map (λ block. None) blocks)
none_received [] = tt
none_received (block ∷ blocks) = none_received blocks

pull_of : (found : Option Entry) (pull : Pull) → option_map new_pull found ≡ Some pull → (target : Entry) × (found ≡ Some target) × (new_pull target ≡ pull)
pull_of None pull is = absurd (cc)
pull_of (Some target) pull is = (target, refl, cc)

module _ (targets : ByName Entry) (are : ArePulls targets) (good : AreGood targets) where
  sound_pull : (name : FileName) (pull : Pull) → get (pulls_from (entries targets)) name ≡ Some pull → IsSoundPull name pull
  sound_pull name pull is =
      let of = pull_of (get targets name) pull (sym (pull_found targets name) ∙ is) in
      let named = are.named name of.0 of.1 in
      subst (IsSoundPull name) of.2 (record { named = named.0; valid = named.1; good = good name of.0 of.1; received = none_received of.0.blocks })

  few_pulls : len (pulls_from (entries targets)) ≤ MAX_PULLS
  few_pulls =
      let listed = few_listed (entries targets) in
      let were = len-entries targets in
      let few = are.few in
      omega (arith, listed, were, few)

-- ---- who shares a folder

module _ (shares : List Share) where
  abbrev kinds : List (Device × FolderKind)
  kinds = map (λ (share : Share). (share.device, share.kind)) shares

  said_kind : (device : Device) → Contains (devices_of shares) device → (kind : FolderKind) × Contains kinds (device, kind)
  said_kind device stands =
      let from = Contains-from_image (λ (share : Share). share.device) shares device stands in
      (from.0.kind, subst (λ (n : Device). Contains kinds (n, from.0.kind)) from.2 (Contains-image (λ (share : Share). (share.device, share.kind)) shares from.0 from.1))

  of_kind : (device : Device) (kind : FolderKind) → Contains kinds (device, kind) → Contains (devices_of shares) device
  of_kind device kind stands =
      let from = Contains-from_image (λ (share : Share). (share.device, share.kind)) shares (device, kind) stands in
      subst (Contains (devices_of shares)) (ap (λ (one : Device × FolderKind). one.0) from.2) (Contains-image (λ (share : Share). share.device) shares from.0 from.1)

  another : (device other : Device) → other ≢ device → not (other == device) ≡ true
  another device other apart = cases (other == device) refl where
    cases : (b : Bool) → (other == device) ≡ b → not b ≡ true
    cases true same = absurd (apart (eqb-true other device same))
    cases false is = refl

  is_another : (device other : Device) → not (other == device) ≡ true → other ≢ device
  is_another device other test same = true≢false (sym test ∙ ap (λ (n : Device). not (n == device)) same ∙ ap not (itself device)) where
    itself : (n : Device) → (n == n) ≡ true
    itself n = grind (arith, nat_tests)

  others_are : (device other : Device) → Contains (others_in device shares) other ↔ ((other ≢ device) × Contains (devices_of shares) other)
  others_are device other = (
    λ stands. let from = from_kept (λ (n : Device). not (n == device)) (devices_of shares) other stands in (is_another device other from.1, from.0),
    λ is. kept (λ (n : Device). not (n == device)) (devices_of shares) other is.1 (another device other is.0),
  )

-- ---- a device's folder

share_found : (shares : List Share) (device : Device) (replica : Replica) → option_map (replica_from shares) (share_of device shares) ≡ Some replica →
    (share : Share) × (share_of device shares ≡ Some share) × (replica_from shares share ≡ replica)
share_found shares device replica is = cases (share_of device shares) refl is where
  cases : (o : Option Share) → share_of device shares ≡ o → option_map (replica_from shares) o ≡ Some replica → (share : Share) × (share_of device shares ≡ Some share) × (replica_from shares share ≡ replica)
  cases None none is = absurd (cc)
  cases (Some share) found is = (share, found, cc)

module _ (shares : List Share) (are : AreShares shares) (all : AllByRecursion IsGoodShare shares) (share : Share) (there : Contains shares share) where
  good : IsGoodShare share
  good = holds_of_member IsGoodShare shares share all there

  views : AreViews (devices_of shares) share.device share.views
  views = All-contains (λ (one : Share). AreViews (devices_of shares) one.device one.views) shares share are.views there

  sound_view : (other : Device) (view : Listing) → get (from_entries {R = nat_cmp} (map view_from share.views)) other ≡ Some view → IsSoundView (others_in share.device shares) other view
  sound_view other view is =
      let of = view_found share.views other view is in
      let among = All-contains (λ (one : PeerView). (one.of ≢ share.device) × Contains (devices_of shares) one.of) share.views of.0 views.others of.1 in
      record {
        shares = subst (Contains (others_in share.device shares)) of.2 ((others_are shares share.device of.0.of).1 among);
        view_of_index = subst IsIndex of.3 (All-contains (λ (one : PeerView). IsIndex (known_of one)) share.views of.0 views.indexes of.1);
        good = subst (λ (l : Listing). AreGood l.records) of.3 (good_records of.0.records (holds_of_member IsGoodView share.views of.0 good.views of.1));
      }

  sound_replica : IsSoundReplica share.device (replica_from shares share)
  sound_replica =
      let pulls = All-contains (λ (one : Share). ArePulls one.pulls) shares share are.pulls there in
      record {
        index = All-contains (λ (one : Share). IsIndex (index_of one)) shares share are.indexes there;
        id = good.index;
        own = good_records share.own good.own;
        views = sound_view;
        pulls = sound_pull share.pulls pulls (good_records share.pulls good.pulls);
        few_pulls = few_pulls share.pulls pulls (good_records share.pulls good.pulls);
        store = are_nodes share.store good.store;
      }

-- ---- messages

sound_message : (full : Bool) (folder : Folder) (batch : List Entry) → IsBatch batch → AllGood batch → IsSoundMessage (message_of full folder batch)
sound_message true folder batch is good = (is, good)
sound_message false folder batch is good = (is, good)

sound_queue : AmongIsContained → (folders : List SharedFolder) (a b : Device) (flights : List Flight) → All (IsFlight folders a b) flights → AllByRecursion IsGoodFlight flights → length flights ≤ MAX_MESSAGES → IsSoundQueue (map message_from flights)
sound_queue among folders a b flights are good few = record {
  few = let same = length-map flights message_from in omega (arith, same, few);
  messages = λ message stands.
      let from = Contains-from_image message_from flights message stands in
      subst IsSoundMessage from.2
      (sound_message from.0.full from.0.folder from.0.records (All-contains (IsFlight folders a b) flights from.0 are from.1).batch (λ entry is.
      holds_of_member IsGood from.0.records entry (holds_of_member IsGoodFlight flights from.0 good from.1) ((among entry from.0.records).0 is)));
}

nothing_waits : IsSoundQueue []
nothing_waits = record { few = omega arith; messages = λ message stands. absurd (not_in_none message stands) }

-- ---- the whole

module _ (among : AmongIsContained) (cut : CutParts) (is : IsCut cut) (good : IsGoodCut cut) where
  abbrev at : Folder → List Share
  at folder = shares_of folder cut.folders

  -- the shares of a folder are those of one that is there
  module _ (folder : Folder) (share : Share) (there : Contains (at folder) share) where
    shared : (one : SharedFolder) × Contains cut.folders one × (at folder ≡ one.shares)
    shared =
        ⊎_elim (λ found. found) (λ none. absurd (not_in_none share (subst (λ (shares : List Share). Contains shares share) none there))) (found_shares folder cut.folders)

    are_shares : AreShares (at folder)
    are_shares = subst AreShares (sym shared.2) (All-contains (λ (one : SharedFolder). AreShares one.shares) cut.folders shared.0 is.shares shared.1)

    good_shares : AllByRecursion IsGoodShare (at folder)
    good_shares = subst (λ (shares : List Share). AllByRecursion IsGoodShare shares) (sym shared.2) (holds_of_member IsGoodFolder cut.folders shared.0 good.0 shared.1)

    device_there : Contains (config_from cut).devices share.device
    device_there =
        Contains-flat_map (λ (one : SharedFolder). devices_of one.shares) cut.folders shared.0 share.device shared.1
        (Contains-image (λ (one : Share). one.device) shared.0.shares share (subst (λ (shares : List Share). Contains shares share) shared.2 there))

  -- what a device has of a folder is of its share
  of_share : (device : Device) (folder : Folder) (replica : Replica) → get (replicas_from device cut.folders) folder ≡ Some replica →
      (share : Share) × Contains (at folder) share × (share.device ≡ device) × (replica_from (at folder) share ≡ replica)
  of_share device folder replica found =
      let one = share_found (at folder) device replica (sym (found_replica device folder cut.folders is.rise) ∙ found) in
      let there = share_there device (at folder) one.0 one.1 in
      (one.0, there.1, there.0, one.2)

  sound_at : (device : Device) (folder : Folder) (replica : Replica) → get (replicas_from device cut.folders) folder ≡ Some replica → IsSoundReplica device replica
  sound_at device folder replica found =
      let of = of_share device folder replica found in
      subst (IsSoundReplica device) of.3
      (subst (λ (n : Device). IsSoundReplica n (replica_from (at folder) of.0)) of.2 (sound_replica (at folder) (are_shares folder of.0 of.1) (good_shares folder of.0 of.1) of.0 of.1))

  fits : (device : Device) (folder : Folder) (replica : Replica) → get (replicas_from device cut.folders) folder ≡ Some replica → FitsFolder (config_from cut) device folder replica
  fits device folder replica found =
      let of = of_share device folder replica found in
      subst (FitsFolder (config_from cut) device folder) of.3
      (subst (λ (n : Device). FitsFolder (config_from cut) n folder (replica_from (at folder) of.0)) of.2
      (record {
        kind = Contains-image (λ (share : Share). (share.device, share.kind)) (at folder) of.0 of.1;
        others = λ other.
            let are = others_are (at folder) of.0.device other in (
              λ stands. let apart = are.0 stands in (apart.0, said_kind (at folder) other apart.1),
              λ sharing. are.1 (sharing.0, of_kind (at folder) other sharing.1.0 sharing.1.1),
            );
      }))

  has_all : (device : Device) (folder : Folder) → SharesFolder (config_from cut) device folder → IsSome (get (replicas_from device cut.folders) folder)
  has_all device folder shares =
      ap is_some (found_replica device folder cut.folders is.rise)
      ∙ cases (share_of device (at folder)) (share_of_one device (at folder) (of_kind (at folder) device shares.0 shares.1))
    where
      cases : (o : Option Share) → is_some o ≡ true → is_some (option_map (replica_from (at folder)) o) ≡ true
      cases None none = absurd (cc)
      cases (Some share) has = refl

  sound_peer : (device : Device) → IsSoundPeer (config_from cut) device ((cluster_from cut).peer device)
  sound_peer device = record {
    replicas = sound_at device;
    fit = fits device;
    all = has_all device;
    sessions = λ other session found. nothing_in_empty nat_cmp other session found;
  }

  sound_link : (found : Option LinkState) (one other : Device) → link_of one other cut.links ≡ found → IsSoundLink (link_from found)
  sound_link None one other none = record { to_lower = nothing_waits; to_upper = nothing_waits; down = λ down. (refl, refl) }
  sound_link (Some link) one other found =
      let there = (joined cut.links one other link found).0 in
      let of = All-contains (IsLink cut.folders) cut.links link is.links there in
      let carries = holds_of_member IsGoodState cut.links link good.1 there in
      record {
        to_lower = sound_queue among cut.folders link.a link.b link.to_a of.to_a carries.0 of.few_to_a;
        to_upper = sound_queue among cut.folders link.a link.b link.to_b of.to_b carries.1 of.few_to_b;
        down = λ down. let none = of.quiet down in (ap (map message_from) none.0, ap (map message_from) none.1);
      }

  -- a device of one of the folders
  numbered : (device : Device) → Contains (config_from cut).devices device → 1 ≤ device
  numbered device stands =
      let from = Contains-from_flat_map (λ (one : SharedFolder). devices_of one.shares) cut.folders device stands in
      let of = Contains-from_image (λ (share : Share). share.device) from.0.shares device from.2 in
      let sound = holds_of_member IsGoodShare from.0.shares of.0 (holds_of_member IsGoodFolder cut.folders from.0 good.0 from.1) of.1 in
      subst (λ (n : Device). 1 ≤ n) of.2 sound.device

  device_of : (device : Device) → HasDevice cut.folders device → Contains (config_from cut).devices device
  device_of device has = Contains-flat_map (λ (one : SharedFolder). devices_of one.shares) cut.folders has.0 device has.1 has.2

  sound_config : IsSoundConfig (config_from cut)
  sound_config = record {
    numbered = numbered;
    sharing = λ folder device shares.
        let from = Contains-from_image (λ (share : Share). (share.device, share.kind)) (at folder) (device, shares.0) shares.1 in
        subst (Contains (config_from cut).devices) (ap (λ (one : Device × FolderKind). one.0) from.2) (device_there folder from.0 from.1);
    links = λ one other stands.
        let from = Contains-from_image ends_of cut.links (one, other) stands in
        let of = All-contains (IsLink cut.folders) cut.links from.0 is.links from.1 in
        subst (λ (ends : Device × Device). (ends.0 < ends.1) × Contains (config_from cut).devices ends.0 × Contains (config_from cut).devices ends.1) from.2
        (of.ends, device_of from.0.a of.a_device, device_of from.0.b of.b_device);
  }

  pub is_sound : IsSound (cluster_from cut)
  is_sound = record {
    config = sound_config;
    peers = λ device stands. sound_peer device;
    links = λ one other stands. sound_link (link_of one other cut.links) one other refl;
  }
