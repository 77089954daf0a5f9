-- Good records: what the types of a record and of its version keep (BEP v1, 'FileInfo' and 'Vector'; the limits are this
-- project's profile).
use Rattle.std.specs.Prelude.{◌≡◌, ◌≤◌, ℕ, ⊤, List, length, Option, Some, None}
use Rattle.std.specs.FinMap.{get}
use Rattle.bep_map.specs.NameMap.{ByName}
use Rattle.bep_record.specs.declared.entry.Entry.{Entry}
use Rattle.bep_record.specs.Entry.{IsWellFormed}
use Rattle.bep_record.specs.Vector.{IsVersion, most_counters}
use Rattle.bep_index.specs.After.{IsAmong}

-- a record is well formed, and so is its version
pub record IsGood (entry : Entry) : Type 0 where
  pub formed : IsWellFormed entry
  pub version : IsVersion entry.version
  pub few : length entry.version ≤ most_counters

-- so is each record of a map
abbrev pub AreGood : ByName Entry → Type 0
AreGood records = (name : List ℕ) (entry : Entry) → get records name ≡ Some entry → IsGood entry

-- each of a list
abbrev pub AllGood : List Entry → Type 0
AllGood batch = (entry : Entry) → IsAmong entry batch → IsGood entry

-- the record, if there is one
abbrev pub IsGoodIfThere : Option Entry → Type 0
IsGoodIfThere None = ⊤
IsGoodIfThere (Some entry) = IsGood entry
