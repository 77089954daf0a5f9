-- One folder at one device: its own index, its views of the others' indexes, its pulls and its store
-- (BEP v1, 'Index'; 'Folder Types'; pulls and stores are this project's profile).
use Rattle.std.specs.Prelude.{◌≡◌, ℕ, List, [], ◌∷◌, ◌++◌, Option, Some, None, unwrap_or, option_map}
use Rattle.std.specs.Ordering.{nat_cmp}
use Rattle.std.specs.FinMap.{FinMap, get, insert, remove}
use Rattle.bep_map.specs.NameMap.{ByName}
use Rattle.bep_record.specs.declared.entry.Entry.{Entry}
use Rattle.bep_record.specs.declared.node.NodeParts.{NodeParts}
use Rattle.bep_record.specs.declared.folder_kind.FolderKind.{FolderKind}
use Rattle.bep_record.specs.Content.{content_of}
use Rattle.bep_index.specs.Listing.{Listing}
use Rattle.bep_index.specs.Index.{after_put}
use Rattle.bep_index.specs.View.{cleared}
use Rattle.bep_choice.specs.Choice.{Candidate, IsChoice}
use Rattle.bep_choice.specs.Need.{IsNeeded}
use Rattle.bep_model.specs.Tables.{Device, FileName}
use Rattle.bep_model.specs.Winner.{beside}

-- a finite map keyed by device
abbrev pub ByDevice : Type 0 → Type 0
ByDevice V = FinMap nat_cmp V

-- a pull: the record that is being pulled, and the bytes of each of its blocks that were received
pub record Pull : Type 0 where
  pub target : Entry
  pub received : List (Option (List ℕ))

-- what a device has of a folder that it shares
pub record Replica : Type 0 where
  -- what the device does with the folder
  pub kind : FolderKind
  -- the other devices that share it
  pub others : List Device
  -- the device's own index
  pub index : Listing
  -- what it knows of each other's index
  pub views : ByDevice Listing
  pub pulls : ByName Pull
  pub store : ByName NodeParts

-- ---- what stands at a name

-- the device's own record
abbrev pub own_at : Replica → FileName → Option Entry
own_at replica name = get replica.index.records name

abbrev pub node_at : Replica → FileName → Option NodeParts
node_at replica name = get replica.store name

abbrev pub pull_at : Replica → FileName → Option Pull
pull_at replica name = get replica.pulls name

-- the record that is being pulled
abbrev pub target_at : Replica → FileName → Option Entry
target_at replica name = option_map (λ pull. pull.target) (pull_at replica name)

-- the view of another device's index; before anything was known of it, an empty one at point (0, 0)
abbrev pub view_of : Replica → Device → Listing
view_of replica other = unwrap_or (get replica.views other) (cleared 0)

abbrev pub viewed_at : Replica → Device → FileName → Option Entry
viewed_at replica other name = get (view_of replica other).records name

-- a record's version; without a record it is empty
abbrev pub version_of : Option Entry → List (ℕ × ℕ)
version_of None = []
version_of (Some entry) = entry.version

-- the record has the content of the own one, if there is one
abbrev pub HasContentOf : Option Entry → Entry → Type 0
HasContentOf None entry = ⊥
HasContentOf (Some own) entry = content_of entry ≡ content_of own

-- ---- what the device would choose

-- the records of a name in the views of these devices
abbrev pub viewed_by : Replica → FileName → List Device → List Candidate
viewed_by replica name [] = []
viewed_by replica name (other ∷ more) = beside other (viewed_at replica other name) ++ viewed_by replica name more

-- the device's own record and those of its views; local-only and invalid ones aren't chosen
abbrev pub candidates : Device → Replica → FileName → List Candidate
candidates device replica name = beside device (own_at replica name) ++ viewed_by replica name replica.others

-- the record that the device holds for the best
abbrev pub Chooses : Device → Replica → FileName → Entry → Type 0
Chooses device replica name entry = (from : Device) × IsChoice device (candidates device replica name) (from, entry)

-- the device chooses this record and needs it
pub record Wants (device : Device) (replica : Replica) (name : FileName) (entry : Entry) : Type 0 where
  pub chosen : Chooses device replica name entry
  pub needed : IsNeeded replica.kind (own_at replica name) entry

-- ---- changes

-- the record stands in the own index, under the next sequence number
abbrev pub with_record : Replica → Entry → Replica
with_record replica entry = record replica { index = after_put replica.index entry }

-- the store holds this at the name
abbrev pub with_node : Replica → FileName → Option NodeParts → Replica
with_node replica name None = record replica { store = remove replica.store name }
with_node replica name (Some node) = record replica { store = insert replica.store name node }

abbrev pub with_view : Replica → Device → Listing → Replica
with_view replica other view = record replica { views = insert replica.views other view }

abbrev pub with_pull : Replica → FileName → Pull → Replica
with_pull replica name pull = record replica { pulls = insert replica.pulls name pull }

abbrev pub without_pull : Replica → FileName → Replica
without_pull replica name = record replica { pulls = remove replica.pulls name }
