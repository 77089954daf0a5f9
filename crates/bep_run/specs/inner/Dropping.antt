-- Which pulls a puller ends beside those of the names that are wanted (this project's profile).
use Rattle.std.specs.Prelude.{cond, IsSome}
use Rattle.std.specs.FinMap.{contains_key, get, insert}
use Rattle.bep_map.specs.NameMap.{ByName}
use Rattle.bep_model.specs.Tables.{Device, FileName}
use Rattle.bep_machine.specs.Replica.{Replica}
use Rattle.bep_folder.specs.Wanted.{IsWantedName}

-- the device has a pull of the name, and wants no record of it
abbrev pub IsPulledInVain : Device → Replica → FileName → Type 0
IsPulledInVain device replica name = IsSome (get replica.pulls name) × (¬ IsWantedName device replica name)

-- the names with this one, unless it is wanted
abbrev pub with_unwanted : ByName (Unit {0}) → ByName (Unit {0}) → FileName → ByName (Unit {0})
with_unwanted wanted names name = cond (contains_key wanted name) names (insert names name tt)
