-- The names of which a device wants a record, as they are gathered (this project's profile).
use Rattle.std.specs.Prelude.{◌⊎◌, IsSome}
use Rattle.std.specs.FinMap.{get}
use Rattle.bep_map.specs.NameMap.{ByName}
use Rattle.bep_record.specs.declared.entry.Entry.{Entry}
use Rattle.bep_index.specs.Listing.{Listing}
use Rattle.bep_model.specs.Tables.{Device, FileName}
use Rattle.bep_machine.specs.Replica.{ByDevice, Replica}
use Rattle.bep_folder.specs.inner.Chosen.{record_in}
use Rattle.bep_folder.specs.Wanted.{IsWantedName}

-- the names that were looked at were added, if the device wants a record of them
pub record AddsWanted (device : Device) (replica : Replica) (old new : ByName (Unit {0})) (IsLookedAt : FileName → Type 0) : Type 0 where
  pub kept : (name : FileName) → IsSome (get old name) → IsSome (get new name)
  pub wanted : (name : FileName) → IsSome (get new name) → IsSome (get old name) ⊎ IsWantedName device replica name
  pub each : (name : FileName) → IsLookedAt name → IsWantedName device replica name → IsSome (get new name)

-- the name has a record
abbrev pub IsRecorded : ByName Entry → FileName → Type 0
IsRecorded records name = IsSome (get records name)

-- it has one in the view of this device
abbrev pub IsViewedOf : ByDevice Listing → Device → FileName → Type 0
IsViewedOf views other name = IsSome (record_in views name other)
