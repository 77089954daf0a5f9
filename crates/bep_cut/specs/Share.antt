-- What a cut has of a folder at a device: its records, what its store holds, what it knows of the others' indexes and what
-- it pulls; blocks that were received are forgotten (this project's profile).
use Rattle.std.specs.Prelude.{◌==◌, ◌&&◌, Bool, List, [], ◌∷◌, map, Option, Some, None, IfSome, if◌then◌else◌}
use Rattle.std.specs.List.{flat_map, AllByRecursion}
use Rattle.std.specs.FinMap.{get, entries, from_entries}
use Rattle.bep_map.specs.NameMap.{ByName}
use Rattle.bep_record.specs.declared.entry.Entry.{Entry}
use Rattle.bep_index.specs.Listing.{Listing}
use Rattle.bep_index.specs.Index.{IsIndex}
use Rattle.bep_model.specs.Tables.{Device, FileName}
use Rattle.bep_machine.specs.Replica.{ByDevice, Pull, Replica}
use Rattle.bep_folder.specs.Held.{AreOthers, ArePulls}
use Rattle.bep_folder.specs.Pull.{IsPull}
use Rattle.bep_tables.specs.declared.share.Share.{Share}
use Rattle.bep_tables.specs.declared.share.PeerView.{PeerView}

-- nothing is known of the index: the view is at point (0, 0), where it is empty
abbrev pub is_unknown : Listing → Bool
is_unknown view = (view.id == 0) && (view.sequence == 0)

-- what is known of a device's index, if anything is
abbrev pub view_cut : Device → Listing → List PeerView
view_cut other view =
    if is_unknown view
    then []
    else record { of = other; index_id = view.id; max_sequence = view.sequence; records = view.records } ∷ []

abbrev pub known_cut : Device → Option Listing → List PeerView
known_cut other None = []
known_cut other (Some view) = view_cut other view

-- what is known of these devices' indexes
abbrev pub views_cut : ByDevice Listing → List Device → List PeerView
views_cut views = flat_map (λ other. known_cut other (get views other))

-- the records that are pulled, each under its name
abbrev pub target_cut : FileName × Pull → FileName × Entry
target_cut one = (one.0, one.1.target)

abbrev pub targets_cut : ByName Pull → ByName Entry
targets_cut pulls = from_entries (map target_cut (entries pulls))

-- what the device has of the folder
abbrev pub share_cut : Device → Replica → Share
share_cut device replica = record {
  device = device;
  kind = replica.kind;
  index_id = replica.index.id;
  max_sequence = replica.index.sequence;
  own = replica.index.records;
  store = replica.store;
  views = views_cut replica.views replica.others;
  pulls = targets_cut replica.pulls;
}

-- ---- what holds of every folder at a device

-- what is known of the device's index, if anything is, is of an index
abbrev pub IsIndexIn : ByDevice Listing → Device → Type 0
IsIndexIn views other = IfSome (get views other) IsIndex

-- each pull is one
abbrev pub ArePullsEach : ByName Pull → Type 0
ArePullsEach pulls = AllByRecursion (λ (one : FileName × Pull). IsPull one.1) (entries pulls)

pub record IsSoundAt (device : Device) (replica : Replica) : Type 0 where
  pub others : AreOthers device replica.others
  pub index : IsIndex replica.index
  pub views : AllByRecursion (IsIndexIn replica.views) replica.others
  pub pulls : ArePulls replica.pulls
  pub each : ArePullsEach replica.pulls
