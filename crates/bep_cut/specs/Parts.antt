-- The devices and the links of a cluster, as its parts are; and what reading the devices' stores does to them (this
-- project's profile).
use Rattle.std.specs.Prelude.{◌≡◌, ◌≢◌, ◌↔◌, ◌<◌, ◌≤◌, ℕ, List, map, length, Option, Some, IsSome, Contains, Result, Ok, Err, option_map, slice_get}
use Rattle.std.specs.List.Sorted.{IsStrictlyIncreasing, IsStrictlySortedBy}
use Rattle.std.specs.FinMap.{get}
use Rattle.bep_record.specs.declared.limits.TheConstants.{MAX_DEVICES, MAX_FOLDERS}
use Rattle.bep_model.specs.Tables.{Device, Folder}
use Rattle.bep_folder.specs.Held.{Held}
use Rattle.bep_links.specs.Link.{LinkBetween}
use Rattle.bep_peer.specs.declared.error.PeerError.{PeerError}
use Rattle.bep_peer.specs.declared.error.PeerError.TheVariants as errors
use Rattle.bep_peer.specs.Member.{Member}
use Rattle.bep_tables.specs.Cut.{ends_cmp}
use Rattle.bep_cut.specs.declared.error.CutError.{CutError}
use Rattle.bep_cut.specs.declared.error.CutError.TheVariants.{StoreFault, Memory}
use Rattle.bep_cut.specs.Cut.{seen, folders_of}

-- the device is one of these, and has the folder
pub record Has (members : List Member) (device : Device) (folder : Folder) : Type 0 where
  pub member : Member
  pub there : Contains members member
  pub number : member.number ≡ device
  pub shares : IsSome (get member.folders folder)

-- the device is one of these, and knows of a link with the other one
pub record Knows (members : List Member) (device other : Device) : Type 0 where
  pub member : Member
  pub there : Contains members member
  pub number : member.number ≡ device
  pub linked : Contains member.linked other

-- each device names as the others that share its folder exactly those that have it
abbrev pub AgreeOnSharing : List Member → Type 0
AgreeOnSharing members =
    (member : Member) (folder : Folder) (held : Held) (device : Device) → Contains members member → get member.folders folder ≡ Some held →
    Contains held.tables.others device ↔ ((device ≢ member.number) × Has members device folder)

-- there is a link exactly where both devices know of it
abbrev pub AgreeOnLinks : List Member → List LinkBetween → Type 0
AgreeOnLinks members links =
    (lower upper : Device) →
    Contains (map (λ between. between.ends) links) (lower, upper) ↔ ((lower < upper) × Knows members lower upper × Knows members upper lower)

-- each device shares some folder
abbrev pub ShareSome : List Member → Type 0
ShareSome members = (member : Member) → Contains members member → (folder : Folder) × IsSome (get member.folders folder)

-- one of each device and one of each link that the devices know of, both rising; the devices agree on who shares what
pub record AreParts (members : List Member) (links : List LinkBetween) : Type 0 where
  pub devices : IsStrictlyIncreasing (map (λ member. member.number) members)
  pub rising : IsStrictlySortedBy ends_cmp (map (λ between. between.ends) links)
  pub few_devices : length members ≤ MAX_DEVICES
  pub few_folders : length (folders_of (map seen members)) ≤ MAX_FOLDERS
  pub sharing : AgreeOnSharing members
  pub linked : AgreeOnLinks members links
  pub some : ShareSome members

-- ---- reading the stores

-- the devices with which each of them has links
abbrev pub links_of : List Member → List (List Device)
links_of = map (λ member. member.linked)

-- why no cut is taken where the store of a folder that a device has isn't read
abbrev pub error_of : PeerError → CutError
error_of errors.Memory = Memory
error_of (errors.Refused refusal) = StoreFault
error_of errors.Stale = StoreFault

-- how often the store of each folder failed
abbrev pub faults_of : Member → Folder → Option ℕ
faults_of member folder = option_map (λ held. held.faults) (get member.folders folder)

-- the store of a folder failed once more
pub record HasRisen (old new : Folder → Option ℕ) : Type 0 where
  pub folder : Folder
  pub was : ℕ
  pub now : ℕ
  pub before : old folder ≡ Some was
  pub after : new folder ≡ Some now
  pub rose : was < now

-- a fault is answered where a store failed once more; else none did
abbrev pub Counts : {A : Type 0} → (old new : Folder → Option ℕ) → Result A CutError → Type 0
Counts old new (Err StoreFault) = HasRisen old new
Counts old new (Err Memory) = new ≡ old
Counts old new (Ok _) = new ≡ old

-- a store of one of the devices failed once more
pub record HaveRisen (olds news : List (Folder → Option ℕ)) : Type 0 where
  pub place : ℕ
  pub old : Folder → Option ℕ
  pub new : Folder → Option ℕ
  pub was_there : slice_get olds place ≡ Some old
  pub is_there : slice_get news place ≡ Some new
  pub risen : HasRisen old new

abbrev pub CountsAll : {A : Type 0} → (olds news : List (Folder → Option ℕ)) → Result A CutError → Type 0
CountsAll olds news (Err StoreFault) = HaveRisen olds news
CountsAll olds news (Err Memory) = news ≡ olds
CountsAll olds news (Ok _) = news ≡ olds
