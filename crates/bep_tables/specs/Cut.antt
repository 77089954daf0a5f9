-- A cut of a cluster, and the tables that it says (this project's profile).
use Rattle.std.specs.Prelude.{◌≡◌, ◌≢◌, ◌<◌, ◌≤◌, ◌++◌, Bool, false, List, [], Option, Some, All, Contains, length, map, option_map, unwrap_or, option_and_then}
use Rattle.std.specs.Ordering.{nat_cmp, is_eq, on, then_cmp}
use Rattle.std.specs.declared.cmp.Ordering.{Ordering}
use Rattle.std.specs.Cmp.Lexicographic.{slice_cmp}
use Rattle.std.specs.List.{find}
use Rattle.std.specs.List.Sorted.{IsStrictlyIncreasing, IsStrictlySortedBy}
use Rattle.std.specs.FinMap.{get, len}
use Rattle.bep_record.specs.declared.entry.Entry.{Entry}
use Rattle.bep_map.specs.NameMap.{ByName}
use Rattle.bep_index.specs.Batch.{IsBatch}
use Rattle.bep_index.specs.Listing.{Listing}
use Rattle.bep_index.specs.Index.{IsIndex}
use Rattle.bep_index.specs.declared.limits.TheConstants.{MAX_SEQUENCE}
use Rattle.bep_model.specs.declared.flight.Flight.{Flight}
use Rattle.bep_model.specs.Tables.{Tables, Device, Folder, FileName}
use Rattle.bep_tables.specs.declared.share.Share.{Share}
use Rattle.bep_tables.specs.declared.share.PeerView.{PeerView}
use Rattle.bep_tables.specs.declared.share.SharedFolder.{SharedFolder}
use Rattle.bep_tables.specs.declared.link.LinkState.{LinkState}
use Rattle.bep_tables.specs.declared.cut.CutParts.{CutParts}
use Rattle.bep_record.specs.declared.limits.TheConstants.{MAX_FOLDERS, MAX_DEVICES, MAX_PULLS, MAX_MESSAGES}

-- the index that a device has of a folder
abbrev pub index_of : Share → Listing
index_of share = record { id = share.index_id; sequence = share.max_sequence; records = share.own }

-- what is known of another device's index
abbrev pub known_of : PeerView → Listing
known_of view = record { id = view.index_id; sequence = view.max_sequence; records = view.records }

-- the devices of these shares
abbrev pub devices_of : List Share → List Device
devices_of = map (λ share. share.device)

-- the device shares one of the folders
abbrev pub HasDevice : List SharedFolder → Device → Type 0
HasDevice folders device = (shared : SharedFolder) × Contains folders shared × Contains (devices_of shared.shares) device

-- something is known of another's index: the view isn't at point (0, 0), where it would be empty
abbrev pub HasPoint : PeerView → Type 0
HasPoint view = ¬ ((view.index_id ≡ 0) × (view.max_sequence ≡ 0))

-- a device's views are of other devices that share the folder, one of each, devices rising; what they know is of an
-- index, and none is at point (0, 0), where nothing is known
pub record AreViews (devices : List Device) (device : Device) (views : List PeerView) : Type 0 where
  pub rise : IsStrictlyIncreasing (map (λ view. view.of) views)
  pub others : All (λ view. (view.of ≢ device) × Contains devices view.of) views
  pub indexes : All (λ view. IsIndex (known_of view)) views
  pub known : All HasPoint views

-- each pull stands at its name, and none is invalid
abbrev pub AreNamed : ByName Entry → Type 0
AreNamed pulls = (name : FileName) (entry : Entry) → get pulls name ≡ Some entry → (entry.name ≡ name) × (entry.invalid ≡ false)

-- what a device pulls; each was a record of an index
pub record ArePulls (pulls : ByName Entry) : Type 0 where
  pub few : len pulls ≤ MAX_PULLS
  pub named : AreNamed pulls
  pub within : (name : FileName) (entry : Entry) → get pulls name ≡ Some entry → entry.sequence ≤ MAX_SEQUENCE

-- a device stands once in a folder, and devices rise; its records are those of an index
pub record AreShares (shares : List Share) : Type 0 where
  pub rise : IsStrictlyIncreasing (devices_of shares)
  pub indexes : All (λ share. IsIndex (index_of share)) shares
  pub views : All (λ share. AreViews (devices_of shares) share.device share.views) shares
  pub pulls : All (λ share. ArePulls share.pulls) shares

-- whether this is the folder of the name
abbrev pub is_folder : Folder → SharedFolder → Bool
is_folder folder shared = is_eq (slice_cmp nat_cmp shared.folder folder)

-- what the devices have that share a folder
abbrev pub shares_of : Folder → List SharedFolder → List Share
shares_of folder folders = unwrap_or (option_map (λ shared. shared.shares) (find (is_folder folder) folders)) []

-- a message of a folder that both devices share
pub record IsFlight (folders : List SharedFolder) (a b : Device) (flight : Flight) : Type 0 where
  pub batch : IsBatch flight.records
  pub shared_by_a : Contains (devices_of (shares_of flight.folder folders)) a
  pub shared_by_b : Contains (devices_of (shares_of flight.folder folders)) b

-- a link joins two devices of the cluster, the smaller one first; at most 1024 messages are on their way to either, and
-- none while it is down
pub record IsLink (folders : List SharedFolder) (link : LinkState) : Type 0 where
  pub ends : link.a < link.b
  pub a_device : HasDevice folders link.a
  pub b_device : HasDevice folders link.b
  pub epoch : link.epoch ≤ MAX_SEQUENCE
  pub quiet : link.up ≡ false → (link.to_a ≡ []) × (link.to_b ≡ [])
  pub few_to_a : length link.to_a ≤ MAX_MESSAGES
  pub few_to_b : length link.to_b ≤ MAX_MESSAGES
  pub to_a : All (IsFlight folders link.a link.b) link.to_a
  pub to_b : All (IsFlight folders link.a link.b) link.to_b

-- the two devices of a link, and the order of links by them
abbrev pub ends_of : LinkState → Device × Device
ends_of link = (link.a, link.b)

abbrev pub ends_cmp : Device × Device → Device × Device → Ordering
ends_cmp = then_cmp (on (λ ends. ends.0) nat_cmp) (on (λ ends. ends.1) nat_cmp)

-- what holds of every cut
pub record IsCut (cut : CutParts) : Type 0 where
  pub rise : IsStrictlySortedBy (slice_cmp nat_cmp) (map (λ shared. shared.folder) cut.folders)
  pub shares : All (λ shared. AreShares shared.shares) cut.folders
  pub few_folders : length cut.folders ≤ MAX_FOLDERS
  pub few_devices : (devices : List Device) → IsStrictlyIncreasing devices → All (HasDevice cut.folders) devices → length devices ≤ MAX_DEVICES
  pub links_rise : IsStrictlySortedBy ends_cmp (map ends_of cut.links)
  pub links : All (IsLink cut.folders) cut.links

-- whether this is the share of the device
abbrev pub is_device : Device → Share → Bool
is_device device share = is_eq (nat_cmp share.device device)

-- what a device has of a folder
abbrev pub share_of : Device → List Share → Option Share
share_of device shares = find (is_device device) shares

-- what is known of a device, among these views
abbrev pub view_of : Device → List PeerView → Option PeerView
view_of device views = find (λ view. is_eq (nat_cmp view.of device)) views

-- the link whose smaller device is the first of these, and its greater one the second
abbrev pub link_of : Device → Device → List LinkState → Option LinkState
link_of a b links = find (λ link. is_eq (ends_cmp (ends_of link) (a, b))) links

-- what is on its way from one device to another, over the link between them
abbrev pub flights_of : Device → Device → List LinkState → List Flight
flights_of from to links =
    unwrap_or (option_map (λ link. link.to_b) (link_of from to links)) []
    ++ unwrap_or (option_map (λ link. link.to_a) (link_of to from links)) []

-- what the cut says
unfoldable pub tables_of : CutParts → Tables
tables_of cut = record {
  sharing = λ folder. map (λ share. (share.device, share.kind)) (shares_of folder cut.folders);
  own = λ device folder name. option_and_then (λ share. get share.own name) (share_of device (shares_of folder cut.folders));
  node = λ device folder name. option_and_then (λ share. get share.store name) (share_of device (shares_of folder cut.folders));
  viewed = λ device other folder name.
      option_and_then
      (λ share. option_and_then (λ view. get view.records name) (view_of other share.views))
      (share_of device (shares_of folder cut.folders));
  target = λ device folder name. option_and_then (λ share. get share.pulls name) (share_of device (shares_of folder cut.folders));
  flying = λ from to. flights_of from to cut.links;
}
