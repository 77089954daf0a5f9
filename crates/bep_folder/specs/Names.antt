-- The names of which a folder has a node or a record (this project's profile).
use Rattle.std.specs.Prelude.{◌⊎◌, ◌↔◌, List, [], ◌∷◌, Option, Some, None, IsSome, Contains}
use Rattle.std.specs.FinMap.{get}
use Rattle.bep_map.specs.NameMap.{ByName}
use Rattle.bep_record.specs.declared.entry.Entry.{Entry}
use Rattle.bep_model.specs.Tables.{FileName}
use Rattle.bep_machine.specs.Replica.{Replica, node_at, own_at}

-- the store has a node of the name, or the device a record
abbrev pub IsNameHere : Replica → FileName → Type 0
IsNameHere tables name = IsSome (node_at tables name) ⊎ IsSome (own_at tables name)

-- the names of the records were added, and no others
abbrev pub AddsRecorded : ByName Entry → ByName (Unit {0}) → ByName (Unit {0}) → Type 0
AddsRecorded records old new = (name : FileName) → IsSome (get new name) ↔ (IsSome (get old name) ⊎ IsSome (get records name))

-- the names are those of the list, and those of the records
abbrev pub AreGathered : List FileName → ByName Entry → ByName (Unit {0}) → Type 0
AreGathered stored records names = (name : FileName) → IsSome (get names name) ↔ (Contains stored name ⊎ IsSome (get records name))

-- the record, if there is one, as a list
abbrev pub one_of : Option Entry → List Entry
one_of None = []
one_of (Some entry) = entry ∷ []
