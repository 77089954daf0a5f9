-- Devices and links that agree are a sound cluster, where each of them is sound by itself.
use Rattle.std.proofs.Common.{◌≡◌, ◌≤◌, ◌∙◌, Bool, true, false, cond, List, [], ◌∷◌, Option, Some, None, Contains, is_some, refl, sym, ap, subst, arith}
use Rattle.std.specs.Cmp.Lexicographic.{slice_cmp}
use Rattle.std.specs.FinMap.{get}
use Rattle.std.specs.List.{AllByRecursion}
use Rattle.std.specs.Ordering.{nat_cmp}
use Rattle.bep_facts.specs.Maps.{nothing_in_empty}
use Rattle.bep_facts.specs.Members.{not_in_none, Contains-from_image, holds_of_member}
use Rattle.bep_model.specs.Tables.{Device, Folder}
use Rattle.bep_machine.specs.Replica.{Replica}
use Rattle.bep_machine.specs.Sound.{FitsFolder, IsSound, IsSoundLink, IsSoundPeer, IsSoundQueue, IsSoundReplica}
use Rattle.bep_links.specs.Link.{LinkBetween}
use Rattle.bep_peer.specs.Member.{Member, tables_of}
use Rattle.bep_peer.specs.Sound.{IsSoundMember}
use Rattle.bep_peer.specs.network.Agreed.{AreAgreed, IsSoundBetween}
use Rattle.bep_peer.specs.network.Network.{Network, IsNetwork, between_at, cluster_of, config_of, is_between, link_of, member_at, peer_of}
use Rattle.bep_peer.proofs.Members.{found_by_number, has_number, listed, sharing_there}

-- ---- links

nothing_waits : IsSoundQueue []
nothing_waits = record { few = omega arith; messages = λ message stands. absurd (not_in_none message stands) }

-- one that isn't there never was up
down_is_sound : IsSoundLink (link_of None)
down_is_sound = record { to_lower = nothing_waits; to_upper = nothing_waits; down = λ is. (refl, refl) }

sound_between : (links : List LinkBetween) → AllByRecursion IsSoundBetween links → (lower upper : Device) → IsSoundLink (link_of (between_at links lower upper))
sound_between [] all lower upper = down_is_sound
sound_between (first ∷ links) all lower upper = cases (is_between lower upper first) (sound_between links all.1 lower upper) where
  cases : (b : Bool) → IsSoundLink (link_of (between_at links lower upper)) → IsSoundLink (link_of (cond b (Some first) (between_at links lower upper)))
  cases true rest = all.0
  cases false rest = rest

-- ---- devices

module _ (network : Network) (agreed : AreAgreed network) (members : AllByRecursion IsSoundMember network.members) where
  one_is_sound : (member : Member) → Contains network.members member → IsSoundMember member
  one_is_sound member there = holds_of_member IsSoundMember network.members member members there

  module _ (device : Device) (member : Member) (is : member_at network.members device ≡ Some member) where
    abbrev found : (member.number ≡ device) × Contains network.members member
    found = has_number network.members device member is

    replica_there : (folder : Folder) (replica : Replica) → get (tables_of member).replicas folder ≡ Some replica → IsSoundReplica device replica
    replica_there folder replica has = subst (λ (number : Device). IsSoundReplica number replica) found.0 ((one_is_sound member found.1).replicas folder replica has)

    fits_there : (folder : Folder) (replica : Replica) → get (tables_of member).replicas folder ≡ Some replica → FitsFolder (config_of network) device folder replica
    fits_there folder replica has = subst (λ (number : Device). FitsFolder (config_of network) number folder replica) found.0 (agreed.folders member folder replica found.1 has)

    there_is_sound : IsSoundPeer (config_of network) device (tables_of member)
    there_is_sound = record {
      replicas = replica_there;
      fit = fits_there;
      all = λ folder shares.
          let there = sharing_there network device folder agreed.devices shares in
          let same : there.0 ≡ member = let e : Some there.0 ≡ Some member = sym there.2 ∙ is in cc in
          ap is_some (ap (λ (m : Member). get (tables_of m).replicas folder) (sym same) ∙ there.3);
      sessions = λ other session has. (one_is_sound member found.1).sessions other session has;
    }

  sound_peer : (device : Device) → IsSoundPeer (config_of network) device (peer_of (member_at network.members device))
  sound_peer device = cases (member_at network.members device) refl
    where
      cases : (found : Option Member) → member_at network.members device ≡ found → IsSoundPeer (config_of network) device (peer_of found)
      cases (Some member) is = there_is_sound device member is
      cases None is = record {
        replicas = λ folder replica has. nothing_in_empty (slice_cmp nat_cmp) folder replica has;
        fit = λ folder replica has. nothing_in_empty (slice_cmp nat_cmp) folder replica has;
        all = λ folder shares.
            let there = sharing_there network device folder agreed.devices shares in
            let both : None ≡ Some there.0 = sym is ∙ there.2 in
            absurd (cc);
        sessions = λ other session has. nothing_in_empty nat_cmp other session has;
      }

  -- ---- the whole

  pub sound_network : AllByRecursion IsSoundBetween network.links → IsSound (cluster_of network)
  sound_network links = record {
    config = record {
      numbered = λ device stands.
          let from = Contains-from_image (λ (member : Member). member.number) network.members device stands in
          subst (λ (number : Device). 1 ≤ number) from.2 (one_is_sound from.0 from.1).numbered;
      sharing = λ folder device shares. let there = sharing_there network device folder agreed.devices shares in listed network.members device there.0 there.2;
      links = agreed.ends;
    };
    peers = λ device stands. sound_peer device;
    links = λ one other stands. sound_between network.links links one other;
  }

-- what is kept as a cluster agrees
pub kept_is_agreed : (network : Network) → IsNetwork network → AreAgreed network
kept_is_agreed network rules = record {
  devices = rules.devices;
  ends = rules.ends;
  folders = λ member folder replica there has. (rules.joined member.number member (found_by_number network.members member rules.devices there)).folders folder replica has;
}
