-- What of an index is sent, and what a receiver has of it then (BEP v1, 'Index' and 'Index Update').
use Rattle.std.specs.Prelude.{◌≡◌, ◌⊎◌, ℕ, ◌<◌, ◌≤◌, List, [], ◌∷◌, length}
use Rattle.bep_map.specs.NameMap.{ByName}
use Rattle.bep_record.specs.declared.entry.Entry.{Entry}
use Rattle.bep_index.specs.Listing.{IsRecord}
use Rattle.bep_index.specs.Batch.{Rises, last_sequence}

-- the entry is one of these
abbrev pub IsAmong : Entry → List Entry → Type 0
IsAmong entry [] = ⊥
IsAmong entry (first ∷ more) = (entry ≡ first) ⊎ IsAmong entry more

-- each of these is the record of its name
abbrev pub AreRecords : ByName Entry → List Entry → Type 0
AreRecords records [] = Unit {0}
AreRecords records (entry ∷ more) = IsRecord records entry × AreRecords records more

-- these are, by rising sequence, all records from above `sequence` up to the last of them: none is left out
pub record IsStretch (records : ByName Entry) (sequence : ℕ) (found : List Entry) : Type 0 where
  pub rises : Rises sequence found
  pub recorded : AreRecords records found
  pub whole : (entry : Entry) → IsRecord records entry → sequence < entry.sequence → entry.sequence ≤ last_sequence sequence found → IsAmong entry found

-- the beginning, of at most `limit` records, of all records above `sequence` by rising sequence; fewer only where no
-- more are there
pub record IsAfter (records : ByName Entry) (sequence limit : ℕ) (found : List Entry) : Type 0 where
  pub run : IsStretch records sequence found
  pub at_most : length found ≤ limit
  pub ended : length found < limit → (entry : Entry) → IsRecord records entry → entry.sequence ≤ last_sequence sequence found
