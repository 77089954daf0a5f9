-- Devices and links that agree, which is enough to be a sound cluster (BEP v1, 'Cluster Config').
use Rattle.std.specs.Prelude.{◌≡◌, ◌<◌, List, Some, Contains}
use Rattle.std.specs.List.Sorted.{IsStrictlyIncreasing}
use Rattle.std.specs.FinMap.{get}
use Rattle.bep_model.specs.Tables.{Device, Folder}
use Rattle.bep_machine.specs.Replica.{Replica}
use Rattle.bep_machine.specs.Sound.{FitsFolder, IsSound, IsSoundLink}
use Rattle.bep_links.specs.Link.{LinkBetween}
use Rattle.bep_peer.specs.Member.{Member, tables_of}
use Rattle.bep_peer.specs.network.Network.{Network, IsNetwork, cluster_of, config_of, ends_of, numbers_of}

-- Devices rise, links join two of them, the smaller first, and each folder of a device is shared by the devices that it
-- says. What the devices know of links isn't asked.
pub record AreAgreed (network : Network) : Type 0 where
  pub devices : IsStrictlyIncreasing (numbers_of network.members)
  pub ends : (one other : Device) → Contains (ends_of network.links) (one, other) →
      (one < other) × Contains (numbers_of network.members) one × Contains (numbers_of network.members) other
  pub folders : (member : Member) (folder : Folder) (replica : Replica) → Contains network.members member →
      get (tables_of member).replicas folder ≡ Some replica → FitsFolder (config_of network) member.number folder replica

-- these devices and links
abbrev pub network_of : List Member → List LinkBetween → Network
network_of members links = record { members = members; links = links }

-- where they agree, they are a sound cluster
abbrev pub AreSoundWhereAgreed : Network → Type 0
AreSoundWhereAgreed network = AreAgreed network → IsSound (cluster_of network)

-- and so is what is kept as a cluster
abbrev pub IsSoundWhereKept : Network → Type 0
IsSoundWhereKept network = IsNetwork network → IsSound (cluster_of network)

-- a link by itself is sound
abbrev pub IsSoundBetween : LinkBetween → Type 0
IsSoundBetween between = IsSoundLink between.link
