-- A cluster as it is kept: its devices and its links, and what the tables of a cluster say of them (BEP v1, 'Cluster
-- Config').
use Rattle.std.specs.Prelude.{◌≡◌, ◌↔◌, ◌<◌, ◌≤◌, ◌==◌, ◌&&◌, nat_lt, ℕ, Bool, false, List, [], ◌∷◌, map, length, Option, Some, None, Contains, if◌then◌else◌, refl}
use Rattle.std.specs.List.{find, flat_map}
use Rattle.std.specs.List.Sorted.{IsStrictlyIncreasing, IsStrictlySortedBy}
use Rattle.std.specs.Coded.{Coded, code_by, coded×, coded_list}
use Rattle.std.specs.FinMap.{empty, get}
use Rattle.bep_record.specs.declared.folder_kind.FolderKind.{FolderKind}
use Rattle.bep_record.specs.declared.limits.TheConstants.{MAX_DEVICES, MAX_FOLDERS}
use Rattle.bep_config.specs.Config.{by_ends}
use Rattle.bep_model.specs.Tables.{Device, Folder}
use Rattle.bep_machine.specs.Link.{Link}
use Rattle.bep_machine.specs.Peer.{Peer}
use Rattle.bep_machine.specs.Cluster.{Config, Cluster}
use Rattle.bep_machine.specs.Replica.{Replica}
use Rattle.bep_machine.specs.Sound.{FitsFolder}
use Rattle.bep_machine.specs.Steps.{AreLinked, SharesFolder}
use Rattle.bep_links.specs.Link.{LinkBetween}
use Rattle.bep_peer.specs.Member.{Member, tables_of}

-- the devices of a cluster, and its links
pub record Network : Type 0 where
  pub members : List Member
  pub links : List LinkBetween

-- it is stored as its parts, by the codes of a device and of a link
abbrev pub network_code : Coded Member → Coded LinkBetween → Coded Network
network_code member between =
    code_by (List Member × List LinkBetween) (coded× (coded_list member) (coded_list between))
    (λ n. (n.members, n.links)) (λ p. record { members = p.0; links = p.1 }) (λ _. refl)

abbrev pub numbers_of : List Member → List Device
numbers_of members = map (λ member. member.number) members

abbrev pub ends_of : List LinkBetween → List (Device × Device)
ends_of links = map (λ between. between.ends) links

-- ---- what the tables of a cluster say of it

-- the device, in the kind in which it has the folder, if it has it
abbrev pub kind_of : Device → Option Replica → List (Device × FolderKind)
kind_of device None = []
kind_of device (Some replica) = (device, replica.kind) ∷ []

-- the devices that have the folder, each in its kind
abbrev pub sharing_of : List Member → Folder → List (Device × FolderKind)
sharing_of members folder = flat_map (λ member. kind_of member.number (get (tables_of member).replicas folder)) members

-- the device has the number
abbrev pub is_number : Device → Member → Bool
is_number device member = member.number == device

-- the device of this number, if it is there
abbrev pub member_at : List Member → Device → Option Member
member_at members device = find (is_number device) members

-- the link joins the two, the smaller first
abbrev pub is_between : Device → Device → LinkBetween → Bool
is_between lower upper between = (between.ends.0 == lower) && (between.ends.1 == upper)

-- the two devices, the smaller first
abbrev pub in_order : Device → Device → Device × Device
in_order device other = if nat_lt device other then (device, other) else (other, device)

-- the link between the two, if it is there
abbrev pub between_at : List LinkBetween → Device → Device → Option LinkBetween
between_at links lower upper = find (is_between lower upper) links

-- the device's tables; one that isn't there has nothing
abbrev pub peer_of : Option Member → Peer
peer_of None = record { replicas = empty; sessions = empty }
peer_of (Some member) = tables_of member

-- the link as it is; one that isn't there never was up
abbrev pub link_of : Option LinkBetween → Link
link_of None = record { up = false; epoch = 0; to_lower = []; to_upper = [] }
link_of (Some between) = between.link

abbrev pub config_of : Network → Config
config_of network = record {
  devices = numbers_of network.members;
  sharing = sharing_of network.members;
  links = ends_of network.links;
}

abbrev pub cluster_of : Network → Cluster
cluster_of network = record {
  config = config_of network;
  peer = λ device. peer_of (member_at network.members device);
  link = λ lower upper. link_of (between_at network.links lower upper);
}

-- ---- what holds of every network

-- the device's links are those of the cluster, and each of its folders is shared by the devices that it says
pub record IsJoined (config : Config) (member : Member) : Type 0 where
  pub linked : (other : Device) → Contains member.linked other ↔ AreLinked config member.number other
  pub folders : (folder : Folder) (replica : Replica) → get (tables_of member).replicas folder ≡ Some replica → FitsFolder config member.number folder replica

-- the folders that devices share are among a few
pub record AreFew (config : Config) : Type 0 where
  pub folders : List Folder
  pub few : length folders ≤ MAX_FOLDERS
  pub all : (device : Device) (folder : Folder) → SharesFolder config device folder → Contains folders folder

-- each device shares some folder
abbrev pub ShareSome : Config → Type 0
ShareSome config = (device : Device) → Contains config.devices device → (folder : Folder) × SharesFolder config device folder

-- Each device stands once, and each link; both rise. Links join devices that are there, the smaller first, and each device
-- knows its links and who shares its folders, of which there are a few.
pub record IsNetwork (network : Network) : Type 0 where
  pub devices : IsStrictlyIncreasing (numbers_of network.members)
  pub few : length network.members ≤ MAX_DEVICES
  pub links : IsStrictlySortedBy by_ends (ends_of network.links)
  pub ends : (one other : Device) → Contains (ends_of network.links) (one, other) →
      (one < other) × Contains (numbers_of network.members) one × Contains (numbers_of network.members) other
  pub joined : (device : Device) (member : Member) → member_at network.members device ≡ Some member → IsJoined (config_of network) member
  pub folders : AreFew (config_of network)
  pub some : ShareSome (config_of network)

-- ---- what the last step told

-- which call of the store failed in the device's last action; one that isn't there made none
abbrev pub failed_of : Option Member → Option ℕ
failed_of None = None
failed_of (Some member) = member.trace.failed

abbrev pub failed_at : List Member → Device → Option ℕ
failed_at members device = failed_of (member_at members device)
