-- What a replica is: a folder at one device, with what the last call did to its store.
use Rattle.std.specs.Prelude.{◌≡◌, ◌<◌, ◌≤◌, ℕ, List, length, Some, Contains, refl}
use Rattle.std.specs.List.Sorted.{IsStrictlyIncreasing}
use Rattle.std.specs.Coded.{Coded, code_by, coded×, coded_ℕ, coded_list}
use Rattle.std.specs.FinMap.{code, empty, get, len}
use Rattle.bep_map.specs.NameMap.{ByName}
use Rattle.bep_record.specs.declared.entry.Entry.{Entry}
use Rattle.bep_record.specs.declared.node.NodeParts.{NodeParts}
use Rattle.bep_record.specs.declared.folder_kind.FolderKind.{FolderKind}
use Rattle.bep_record.specs.declared.limits.TheConstants.{MAX_DEVICES, MAX_PULLS}
use Rattle.bep_index.specs.Listing.{Listing, listing_code}
use Rattle.bep_model.specs.Tables.{Device, Folder, FileName}
use Rattle.bep_machine.specs.Replica.{ByDevice, Pull, Replica}
use Rattle.bep_folder.specs.Pull.{pull_code}
use Rattle.bep_folder.specs.Trace.{Trace, trace_code, no_trace}

-- a folder at a device: what the device has of it, how often its store failed, and the trace of the last call
pub record Held : Type 0 where
  pub device : Device
  pub folder : Folder
  pub tables : Replica
  pub faults : ℕ
  -- how many calls of the store the last call made
  pub made : ℕ
  pub trace : Trace

-- tables are stored as their parts, by the codes of a kind, an entry and a node
abbrev pub tables_code : Coded FolderKind → Coded Entry → Coded NodeParts → Coded Replica
tables_code kind entry node =
    code_by (FolderKind × (List Device × (Listing × (ByDevice Listing × (ByName Pull × ByName NodeParts)))))
    (coded× kind (coded× (coded_list coded_ℕ) (coded× (listing_code entry) (coded× (code coded_ℕ (listing_code entry)) (coded× (code (coded_list coded_ℕ) (pull_code entry)) (code (coded_list coded_ℕ) node))))))
    (λ r. (r.kind, (r.others, (r.index, (r.views, (r.pulls, r.store))))))
    (λ p. record { kind = p.0; others = p.1.0; index = p.1.1.0; views = p.1.1.1.0; pulls = p.1.1.1.1.0; store = p.1.1.1.1.1 })
    (λ _. refl)

-- what is held is stored as its parts
abbrev pub held_code : Coded FolderKind → Coded Entry → Coded NodeParts → Coded Held
held_code kind entry node =
    code_by (Device × (Folder × (Replica × (ℕ × (ℕ × Trace)))))
    (coded× coded_ℕ (coded× (coded_list coded_ℕ) (coded× (tables_code kind entry node) (coded× coded_ℕ (coded× coded_ℕ trace_code)))))
    (λ h. (h.device, (h.folder, (h.tables, (h.faults, (h.made, h.trace))))))
    (λ p. record { device = p.0; folder = p.1.0; tables = p.1.1.0; faults = p.1.1.1.0; made = p.1.1.1.1.0; trace = p.1.1.1.1.1 })
    (λ _. refl)

-- the other devices rise, the device isn't among them, and there are at most 15
pub record AreOthers (device : Device) (others : List Device) : Type 0 where
  pub rise : IsStrictlyIncreasing others
  pub apart : ¬ Contains others device
  pub few : length others < MAX_DEVICES

-- each view is of a device that shares the folder
abbrev pub AreOfOthers : List Device → ByDevice Listing → Type 0
AreOfOthers others views = (other : Device) (view : Listing) → get views other ≡ Some view → Contains others other

-- each pull stands under its target's name, and there are at most 64
pub record ArePulls (pulls : ByName Pull) : Type 0 where
  pub named : (name : FileName) (pull : Pull) → get pulls name ≡ Some pull → pull.target.name ≡ name
  pub few : len pulls ≤ MAX_PULLS

-- what holds of every replica
pub record IsHeld (device : Device) (others : List Device) (views : ByDevice Listing) (pulls : ByName Pull) : Type 0 where
  pub sharing : AreOthers device others
  pub viewed : AreOfOthers others views
  pub pulled : ArePulls pulls

-- the folder as it begins: nothing is recorded, known or pulled
abbrev pub started : Device → Folder → FolderKind → ℕ → List Device → ByName NodeParts → ℕ → Held
started device folder kind id others store faults = record {
  device = device;
  folder = folder;
  tables = record {
    kind = kind;
    others = others;
    index = record { id = id; sequence = 0; records = empty };
    views = empty;
    pulls = empty;
    store = store;
  };
  faults = faults;
  made = 0;
  trace = no_trace;
}
