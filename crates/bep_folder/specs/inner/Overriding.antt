-- The record that an override puts, or why there is none (Syncthing, 'Folder Types', in this project's profile).
use Rattle.std.specs.Prelude.{◌≡◌, ◌≢◌, ℕ, ◌<◌, max, List, Option, Result, Ok, Err}
use Rattle.bep_record.specs.declared.entry.Entry.{Entry}
use Rattle.bep_record.specs.declared.folder_kind.FolderKind.TheVariants.{SendOnly}
use Rattle.bep_record.specs.Vector.{counter_of, greatest_counter, most_counters}
use Rattle.bep_model.specs.Tables.{Device, FileName}
use Rattle.bep_machine.specs.Local.{CanOverride, IsMergedAndRaised, IsOverridable, ids_with, overriding}
use Rattle.bep_machine.specs.Replica.{Chooses, Replica, own_at, version_of}
use Rattle.bep_folder.specs.declared.error.FolderError.{FolderError}
use Rattle.bep_folder.specs.declared.error.FolderError.TheVariants.{CounterFull, TooManyCounters, KindForbids, NothingToDo, Memory}

-- one of the two versions has the device's counter at its greatest value
abbrev pub IsCounterSpent : Device → Option Entry → Entry → Type 0
IsCounterSpent device own chosen = max (counter_of (version_of own) device) (counter_of chosen.version device) ≡ greatest_counter

-- together with the device's they have too many counters
abbrev pub AreTooMany : Device → Option Entry → Entry → Type 0
AreTooMany device own chosen = most_counters < ids_with device (version_of own) chosen.version

-- the record wins over the chosen one
abbrev pub IsOverriding : Device → FileName → Option Entry → Entry → Entry → Type 0
IsOverriding device name own chosen entry =
    (version : List (ℕ × ℕ)) × IsMergedAndRaised device (version_of own) chosen.version version × (entry ≡ overriding device name own chosen version)

-- the record that wins over the chosen one, or why its version can't be made
abbrev pub WinsOver : Device → FileName → Option Entry → Entry → Result Entry FolderError → Type 0
WinsOver device name own chosen (Ok entry) =
    (¬ IsCounterSpent device own chosen) × (¬ AreTooMany device own chosen) × IsOverriding device name own chosen entry
WinsOver device name own chosen (Err CounterFull) = IsCounterSpent device own chosen
WinsOver device name own chosen (Err TooManyCounters) = (¬ IsCounterSpent device own chosen) × AreTooMany device own chosen
WinsOver device name own chosen (Err Memory) = Unit {0}
WinsOver device name own chosen (Err _) = ⊥

-- a record is chosen that can be overridden, and this wins over it
abbrev pub WinsOverChosen : Device → FileName → Replica → Result Entry FolderError → Type 0
WinsOverChosen device name tables result =
    (chosen : Entry) × Chooses device tables name chosen × IsOverridable (own_at tables name) chosen × WinsOver device name (own_at tables name) chosen result

-- the record that an override puts, or why there is none
abbrev pub Overrides : Device → FileName → Replica → Result Entry FolderError → Type 0
Overrides device name tables (Err KindForbids) = tables.kind ≢ SendOnly
Overrides device name tables (Err NothingToDo) = (tables.kind ≡ SendOnly) × (¬ CanOverride device name tables)
Overrides device name tables result = (tables.kind ≡ SendOnly) × WinsOverChosen device name tables result
