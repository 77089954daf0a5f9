-- In a cluster that begins nothing was exchanged yet; so, as it is sound by its type, it is reached before any step.
use Rattle.std.proofs.Common.{◌≡◌, ◌==◌, ◌&&◌, ℕ, Bool, true, false, cond, List, [], ◌∷◌, map, Option, Some, None, unwrap_or, Contains, refl, sym, ap, ◌∙◌}
use Rattle.std.specs.Map.{keys_of}
use Rattle.std.specs.Ordering.{nat_cmp}
use Rattle.std.specs.Cmp.Lexicographic.{slice_cmp}
use Rattle.std.specs.FinMap.{empty, get, get-empty}
use Rattle.bep_facts.specs.Maps.{nothing_in_empty}
use Rattle.bep_facts.specs.Members.{Contains-from_image}
use Rattle.bep_map.specs.NameMap.{ByName}
use Rattle.bep_record.specs.declared.node.NodeParts.{NodeParts}
use Rattle.bep_config.specs.declared.sharing.Sharing.{Sharing}
use Rattle.bep_config.specs.Config.{Configuration, IsConfig}
use Rattle.bep_index.specs.View.{cleared}
use Rattle.bep_model.specs.Tables.{Device, Folder}
use Rattle.bep_machine.specs.Gapless.{IsFresh}
use Rattle.bep_machine.specs.Laws.{FreshIsApart}
use Rattle.bep_machine.specs.Link.{Link}
use Rattle.bep_machine.specs.Replica.{Replica, view_of}
use Rattle.bep_machine.specs.Sound.{IsSound}
use Rattle.bep_links.specs.Link.{new_link}
use Rattle.bep_peer.specs.Member.{Member, tables_of}
use Rattle.bep_peer.specs.network.Network.{Network, cluster_of, member_at, between_at, peer_of, link_of}
use Rattle.bep_core.specs.Begin.{begun, begun_member, begun_share}
use Rattle.bep_core.specs.Reached.{IsReached}
use Rattle.bep_core.proofs.BegunJoined.{replica_begun}
use Rattle.bep_peer.proofs.Members.{has_number}

-- ---- links

abbrev down : Link
down = record { up = false; epoch = 0; to_lower = []; to_upper = [] }

-- all links are down
down_link : (links : List (Device × Device)) (lower upper : Device) → link_of (between_at (map (λ ends. new_link ends.0 ends.1) links) lower upper) ≡ down
down_link [] lower upper = refl
down_link (ends ∷ links) lower upper = cases ((ends.0 == lower) && (ends.1 == upper)) (down_link links lower upper)
  where
    cases : (b : Bool) → link_of (between_at (map (λ ends. new_link ends.0 ends.1) links) lower upper) ≡ down →
        link_of (cond b (Some (new_link ends.0 ends.1)) (between_at (map (λ ends. new_link ends.0 ends.1) links) lower upper)) ≡ down
    cases true rest = refl
    cases false rest = rest

module _ {S : Type 0} (contents : S → ByName NodeParts) (faults : S → ℕ) (config : Configuration S) (rules : IsConfig config) where
  abbrev whole : Network
  whole = begun contents faults config

  -- a device that is found is one of the configuration
  configured : (device : Device) (member : Member) → member_at whole.members device ≡ Some member → (one : Device) × Contains config.devices one × (begun_member contents faults config one ≡ member)
  configured device member is = Contains-from_image (begun_member contents faults config) config.devices member (has_number whole.members device member is).1

  -- ---- devices

  -- what a device has of a folder is of a share
  replica_of : (device : Device) (folder : Folder) (replica : Replica) → get (peer_of (member_at whole.members device)).replicas folder ≡ Some replica →
      (one : Device) × (sharing : Sharing S) × Contains config.shares ((folder, one), sharing) ×
      (replica ≡ (begun_share contents faults config.devices (keys_of config.shares) (folder, one) sharing).tables)
  replica_of device folder replica is = cases (member_at whole.members device) refl is
    where
      cases : (found : Option Member) → member_at whole.members device ≡ found → get (peer_of found).replicas folder ≡ Some replica →
          (one : Device) × (sharing : Sharing S) × Contains config.shares ((folder, one), sharing) ×
          (replica ≡ (begun_share contents faults config.devices (keys_of config.shares) (folder, one) sharing).tables)
      cases None none is = nothing_in_empty (slice_cmp nat_cmp) folder replica is
      cases (Some member) has is =
          let of = configured device member has in
          let share = replica_begun contents faults config rules of.0 folder replica (ap (λ (m : Member). get (tables_of m).replicas folder) of.2 ∙ is) in
          (of.0, share.0, share.1, share.2)

  no_sessions : (device : Device) → (peer_of (member_at whole.members device)).sessions ≡ empty
  no_sessions device = cases (member_at whole.members device) refl
    where
      cases : (found : Option Member) → member_at whole.members device ≡ found → (peer_of found).sessions ≡ empty
      cases None none = refl
      cases (Some member) has = ap (λ (m : Member). m.sessions) (sym (configured device member has).2)

  unknown : (device other : Device) (folder : Folder) (replica : Replica) → get (peer_of (member_at whole.members device)).replicas folder ≡ Some replica → view_of replica other ≡ cleared 0
  unknown device other folder replica is =
      ap (λ (r : Replica). view_of r other) (replica_of device folder replica is).3
      ∙ ap (λ found. unwrap_or found (cleared 0)) (get-empty nat_cmp other)

  -- ---- the whole

  fresh : IsFresh (cluster_of whole)
  fresh = record {
    views = unknown;
    sessions = no_sessions;
    links = λ one other. ap (λ (link : Link). link.up) (down_link config.links one other);
  }

  -- it is reached before any step
  pub begun_reached : IsSound (cluster_of whole) → FreshIsApart → IsReached (cluster_of whole)
  begun_reached sound apart = record {
    from = cluster_of whole;
    events = [];
    sound = sound;
    apart = apart (cluster_of whole) sound fresh;
    nodes = tt;
    run = refl;
  }
