-- One cluster has one cut: each of its devices is found by its number, and each link by its ends, so the cut is made of
-- nothing but what the cluster says.
use Rattle.std.proofs.Common.{◌≡◌, ◌∙◌, List, [], ◌∷◌, map, Option, Contains, refl, sym, ap}
use Rattle.std.proofs.lemmas.List.{map-id}
use Rattle.bep_facts.specs.Members.{Contains-first, Contains-more}
use Rattle.bep_model.specs.Tables.{Device}
use Rattle.bep_machine.specs.Cluster.{Cluster}
use Rattle.bep_links.specs.Link.{LinkBetween}
use Rattle.bep_peer.specs.Member.{Member}
use Rattle.bep_peer.specs.network.Network.{Network, IsNetwork, cluster_of, link_of, peer_of}
use Rattle.bep_peer.specs.network.Sharing.{FoundByEnds, FoundByNumber}
use Rattle.bep_cut.specs.Cut.{Seen, cut_at, parts_at, seen}
use Rattle.bep_cut.specs.Laws.{SameClusterSameCut}

-- what is made of each key is what is made of what has the key
made_of_keys : {A B C : Type 0} (key : A → B) (of_key : B → C) (of : A → C) (all : List A) → ((one : A) → Contains all one → of_key (key one) ≡ of one) → map of_key (map key all) ≡ map of all
made_of_keys key of_key of [] same = refl
made_of_keys key of_key of (one ∷ all) same =
    λ i. same one (Contains-first one all) i ∷ made_of_keys key of_key of all (λ more stands. same more (Contains-more one all more stands)) i

-- ---- devices

-- what the cluster says of its devices
abbrev said_devices : Cluster → List Seen
said_devices cluster = map (λ (device : Device). (device, cluster.peer device)) cluster.config.devices

devices_are_said : FoundByNumber → (network : Network) → IsNetwork network → said_devices (cluster_of network) ≡ map seen network.members
devices_are_said found network rules =
    made_of_keys (λ (member : Member). member.number) (λ (device : Device). (device, (cluster_of network).peer device)) seen network.members
    (λ member stands. ap (λ (there : Option Member). (member.number, peer_of there)) (found network member rules stands))

-- ---- links

-- what the cluster says of a link, and of all its links
abbrev said_link : Cluster → Device × Device → LinkBetween
said_link cluster ends = record { ends = ends; link = cluster.link ends.0 ends.1 }

abbrev said_links : Cluster → List LinkBetween
said_links cluster = map (said_link cluster) cluster.config.links

-- the link with these ends, as it was found
abbrev found_with : LinkBetween → Option LinkBetween → LinkBetween
found_with between there = record { ends = between.ends; link = link_of there }

links_are_said : FoundByEnds → (network : Network) → IsNetwork network → said_links (cluster_of network) ≡ network.links
links_are_said found network rules =
    made_of_keys (λ (between : LinkBetween). between.ends) (said_link (cluster_of network)) (λ (between : LinkBetween). between) network.links
    (λ between stands. ap (found_with between) (found network between rules stands))
    ∙ map-id network.links

-- ---- the cut

pub same_cut : FoundByNumber → FoundByEnds → SameClusterSameCut
unfolding cut_at
same_cut found ends one other is also same = λ i. parts_at (devices i) (links i) where
  devices : map seen one.members ≡ map seen other.members
  devices = sym (devices_are_said found one is) ∙ ap said_devices same ∙ devices_are_said found other also

  links : one.links ≡ other.links
  links = sym (links_are_said ends one is) ∙ ap said_links same ∙ links_are_said ends other also
