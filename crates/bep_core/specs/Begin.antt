-- The cluster with which a configuration begins: nothing is recorded, known or on its way (BEP v1, 'Cluster Config').
use Rattle.std.specs.Prelude.{◌==◌, ◌&&◌, ◌||◌, not, ℕ, Bool, List, [], ◌∷◌, map, if◌then◌else◌, unwrap_or}
use Rattle.std.specs.List.{filter, flat_map, list_any}
use Rattle.std.specs.Map.{keys_of}
use Rattle.std.specs.BTreeMap.{is_at}
use Rattle.std.specs.FinMap.{empty, get, from_entries}
use Rattle.bep_map.specs.NameMap.{ByName}
use Rattle.bep_record.specs.declared.node.NodeParts.{NodeParts}
use Rattle.bep_config.specs.declared.sharing.Sharing.{Sharing}
use Rattle.bep_config.specs.Config.{Configuration, by_share, by_ends}
use Rattle.bep_model.specs.Tables.{Device, Folder}
use Rattle.bep_machine.specs.Replica.{ByDevice}
use Rattle.bep_folder.specs.Held.{Held, started}
use Rattle.bep_links.specs.Link.{new_link}
use Rattle.bep_peer.specs.Member.{Member, new_member}
use Rattle.bep_peer.specs.network.Network.{Network}

-- those of the devices that pass the test and aren't this one
abbrev pub others_that : (Device → Bool) → List Device → Device → List Device
others_that test devices device = filter (λ other. not (other == device) && test other) devices

-- the folder's sharing is among these
abbrev pub is_shared : List (Folder × Device) → Folder → Device → Bool
is_shared keys folder device = list_any (is_at (by_share (folder, device))) keys

-- a link joins the two
abbrev pub is_linked : List (Device × Device) → Device → Device → Bool
is_linked links device other = list_any (is_at (by_ends (device, other))) links || list_any (is_at (by_ends (other, device))) links

-- the other devices that share the folder, and those with which there is a link
abbrev pub sharing_with : List Device → List (Folder × Device) → Folder → Device → List Device
sharing_with devices keys folder device = others_that (is_shared keys folder) devices device

abbrev pub linked_with : List Device → List (Device × Device) → Device → List Device
linked_with devices links device = others_that (is_linked links device) devices device

-- a device's folders, where each device has its own
abbrev pub folders_at : ByDevice (ByName Held) → Device → ByName Held
folders_at folders device = unwrap_or (get folders device) empty

module _ {S : Type 0} (contents : S → ByName NodeParts) (faults : S → ℕ) where
  -- what the device has of a folder that it shares
  abbrev pub begun_share : List Device → List (Folder × Device) → (Folder × Device) → Sharing S → Held
  begun_share devices keys key sharing =
      started key.1 key.0 sharing.kind sharing.index_id (sharing_with devices keys key.0 key.1) (contents sharing.store) (faults sharing.store)

  -- what the device has of the share, if it is its own
  abbrev pub own_share : List Device → List (Folder × Device) → Device → (Folder × Device) × Sharing S → List (Folder × Held)
  own_share devices keys device share =
      if share.0.1 == device then (share.0.0, begun_share devices keys share.0 share.1) ∷ [] else []

  -- the device's folders
  abbrev pub begun_folders : List Device → List (Folder × Device) → List ((Folder × Device) × Sharing S) → Device → ByName Held
  begun_folders devices keys shares device = from_entries (flat_map (own_share devices keys device) shares)

  -- the device, with its folders and the devices with which it has links
  abbrev pub begun_member : Configuration S → Device → Member
  begun_member config device =
      new_member device
      (begun_folders config.devices (keys_of config.shares) config.shares device)
      (linked_with config.devices config.links device)

  abbrev pub begun : Configuration S → Network
  begun config = record {
    members = map (begun_member config) config.devices;
    links = map (λ ends. new_link ends.0 ends.1) config.links;
  }
