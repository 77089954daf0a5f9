-- A batch of records, as an Index or an IndexUpdate carries it (BEP v1, 'Index' and 'Index Update'; the limits are this
-- project's profile).
use Rattle.std.specs.Prelude.{◌≢◌, ℕ, ◌<◌, ◌≤◌, List, [], ◌∷◌, length}
use Rattle.std.specs.FinMap.{insert}
use Rattle.bep_map.specs.NameMap.{ByName}
use Rattle.bep_record.specs.declared.entry.Entry.{Entry}
use Rattle.bep_index.specs.declared.limits.TheConstants.{MAX_RECORDS, MAX_SEQUENCE}

-- the sequences rise from above `low`, and none is above the greatest
abbrev pub Rises : ℕ → List Entry → Type 0
Rises low [] = Unit {0}
Rises low (entry ∷ more) = (low < entry.sequence) × (entry.sequence ≤ MAX_SEQUENCE) × Rises entry.sequence more

-- none of these has the name
abbrev pub HasNo : List ℕ → List Entry → Type 0
HasNo name [] = Unit {0}
HasNo name (entry ∷ more) = (entry.name ≢ name) × HasNo name more

-- no two of these have the same name
abbrev pub NamesDiffer : List Entry → Type 0
NamesDiffer [] = Unit {0}
NamesDiffer (entry ∷ more) = HasNo entry.name more × NamesDiffer more

-- what holds of every batch; none of its sequences is 0
pub record IsBatch (entries : List Entry) : Type 0 where
  pub few : length entries ≤ MAX_RECORDS
  pub rises : Rises 0 entries
  pub names : NamesDiffer entries

-- the sequence of the last one, `low` where there is none
abbrev pub last_sequence : ℕ → List Entry → ℕ
last_sequence low [] = low
last_sequence low (entry ∷ more) = last_sequence entry.sequence more

-- the records with each of these at its name
abbrev pub with_all : ByName Entry → List Entry → ByName Entry
with_all records [] = records
with_all records (entry ∷ more) = with_all (insert records entry.name entry) more
