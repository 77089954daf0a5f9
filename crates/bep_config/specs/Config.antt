-- Configurations: folders, the devices that share them, and links between devices (limits are this project's profile).
use Rattle.std.specs.Prelude.{◌≡◌, ◌<◌, ◌≤◌, ℕ, Bool, true, false, ◌==◌, List, [], All, length, is_some}
use Rattle.std.specs.declared.cmp.Ordering.{Ordering}
use Rattle.std.specs.List.{list_any}
use Rattle.std.specs.Ordering.{nat_cmp, on, then_cmp}
use Rattle.std.specs.Cmp.Lexicographic.{slice_cmp}
use Rattle.std.specs.Map.{keys_of, values_of, lookup}
use Rattle.std.specs.BTreeMap.{is_at, insert_entry}
use Rattle.std.specs.BTreeSet.{insert_key}
use Rattle.bep_record.specs.FolderName.{IsFolderName}
use Rattle.bep_record.specs.declared.limits.TheConstants.{MAX_FOLDERS, MAX_DEVICES}
use Rattle.bep_config.specs.declared.sharing.Sharing.{Sharing}
use Rattle.bep_config.specs.declared.config.ConfigParts.{ConfigParts}

-- folders by their names, devices by their numbers, what each device has of each folder that it shares, and links by
-- their two devices: each once, and rising
pub record Configuration (S : Type 0) : Type 0 where
  pub folders : List (List ℕ)
  pub devices : List ℕ
  pub shares : List ((List ℕ × ℕ) × Sharing S)
  pub links : List (ℕ × ℕ)

-- what the parts say that a configuration is taken apart into
abbrev pub said_by : {S : Type 0} → ConfigParts S → Configuration S
said_by parts = record {
  folders = parts.folders.keys;
  devices = parts.devices.keys;
  shares = parts.shares.entries;
  links = parts.links.keys;
}

-- nothing is configured
abbrev pub nothing : {S : Type 0} → Configuration S
nothing = record { folders = []; devices = []; shares = []; links = [] }

-- ---- the orders of its parts

abbrev pub by_name : List ℕ → List ℕ → Ordering
by_name = slice_cmp nat_cmp

abbrev pub by_share : List ℕ × ℕ → List ℕ × ℕ → Ordering
by_share = then_cmp (on (λ key. key.0) (slice_cmp nat_cmp)) (on (λ key. key.1) nat_cmp)

abbrev pub by_ends : ℕ × ℕ → ℕ × ℕ → Ordering
by_ends = then_cmp (on (λ ends. ends.0) nat_cmp) (on (λ ends. ends.1) nat_cmp)

-- ---- what is there

module _ {S : Type 0} (config : Configuration S) where
  abbrev pub has_folder : List ℕ → Bool
  has_folder name = list_any (is_at (by_name name)) config.folders

  abbrev pub has_device : ℕ → Bool
  has_device device = list_any (is_at (nat_cmp device)) config.devices

  -- the device shares the folder
  abbrev pub shares_folder : List ℕ → ℕ → Bool
  shares_folder folder device = is_some (lookup (is_at (by_share (folder, device))) config.shares)

  abbrev pub has_link : ℕ → ℕ → Bool
  has_link a b = list_any (is_at (by_ends (a, b))) config.links

-- ---- rules

-- a link joins two devices, the smaller first
abbrev pub Joins : List ℕ → ℕ × ℕ → Type 0
Joins devices ends =
    (ends.0 < ends.1) × (list_any (is_at (nat_cmp ends.0)) devices ≡ true) × (list_any (is_at (nat_cmp ends.1)) devices ≡ true)

-- at most 16 folders and 16 devices, whose numbers are 1 or more; what a device has is of a folder and a device that are
-- there, with an index id other than 0
pub record IsConfig {S : Type 0} (config : Configuration S) : Type 0 where
  pub few_folders : length config.folders ≤ MAX_FOLDERS
  pub named : All IsFolderName config.folders
  pub few_devices : length config.devices ≤ MAX_DEVICES
  pub of_folders : All (λ key. has_folder config key.0 ≡ true) (keys_of config.shares)
  pub of_devices : All (λ key. has_device config key.1 ≡ true) (keys_of config.shares)
  pub sharing : All (λ device. list_any (λ key. key.1 == device) (keys_of config.shares) ≡ true) config.devices
  pub joined : All (Joins config.devices) config.links
  pub numbered : All (λ device. 1 ≤ device) config.devices
  pub indexed : All (λ sharing. 1 ≤ sharing.index_id) (values_of config.shares)

-- ---- what may be added, and the configuration with it

-- a name of a folder that isn't there yet, while there are fewer than 16
pub record IsNewFolder {S : Type 0} (config : Configuration S) (name : List ℕ) : Type 0 where
  pub named : IsFolderName name
  pub few : length config.folders < MAX_FOLDERS
  pub new : has_folder config name ≡ false

abbrev pub with_folder : {S : Type 0} → Configuration S → List ℕ → Configuration S
with_folder config name = record config { folders = insert_key by_name config.folders name }

-- a folder that is there and that the device doesn't share yet; one of its devices, or one more while there are fewer
-- than 16; and an index id other than 0
pub record IsNewShare {S : Type 0} (config : Configuration S) (folder : List ℕ) (device index_id : ℕ) : Type 0 where
  pub index : 1 ≤ index_id
  pub there : has_folder config folder ≡ true
  pub few : has_device config device ≡ false → length config.devices < MAX_DEVICES
  pub new : shares_folder config folder device ≡ false

abbrev pub with_share : {S : Type 0} → Configuration S → List ℕ → ℕ → Sharing S → Configuration S
with_share config folder device sharing = record config {
  devices = insert_key nat_cmp config.devices device;
  shares = insert_entry by_share config.shares (folder, device) sharing;
}

-- two devices that are there, the smaller first, and have no link yet
pub record IsNewLink {S : Type 0} (config : Configuration S) (a b : ℕ) : Type 0 where
  pub joins : Joins config.devices (a, b)
  pub new : has_link config a b ≡ false

abbrev pub with_link : {S : Type 0} → Configuration S → ℕ → ℕ → Configuration S
with_link config a b = record config { links = insert_key by_ends config.links (a, b) }
