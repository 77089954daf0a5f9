-- The index of a folder at its own device (BEP v1, 'Index').
use Rattle.std.specs.Prelude.{◌≡◌, ◌⊎◌, ℕ, ◌+◌, ◌≤◌, List, Some, None}
use Rattle.std.specs.FinMap.{get, insert, len}
use Rattle.bep_map.specs.NameMap.{ByName}
use Rattle.bep_record.specs.declared.entry.Entry.{Entry}
use Rattle.bep_index.specs.Listing.{Listing}
use Rattle.bep_index.specs.declared.error.IndexError.{IndexError}
use Rattle.bep_index.specs.declared.error.IndexError.TheVariants.{SequenceFull, IndexFull, Memory}
use Rattle.bep_index.specs.declared.limits.TheConstants.{MAX_NAMES, MAX_SEQUENCE}

-- each record stands at its own name, and has a number from 1 to the greatest
abbrev pub AreNumbered : ℕ → ByName Entry → Type 0
AreNumbered greatest records =
    (name : List ℕ) (entry : Entry) → get records name ≡ Some entry → (entry.name ≡ name) × (1 ≤ entry.sequence) × (entry.sequence ≤ greatest)

-- records under different names have different numbers
abbrev pub HaveOwnNumbers : ByName Entry → Type 0
HaveOwnNumbers records =
    (name other : List ℕ) (entry more : Entry) → get records name ≡ Some entry → get records other ≡ Some more → entry.sequence ≡ more.sequence → name ≡ other

-- what holds of every index (its limits are this project's profile)
pub record IsIndex (index : Listing) : Type 0 where
  pub sequence : index.sequence ≤ MAX_SEQUENCE
  pub few : len index.records ≤ MAX_NAMES
  pub numbered : AreNumbered index.sequence index.records
  pub distinct : HaveOwnNumbers index.records

-- no sequence number is left
abbrev pub IsSequenceFull : Listing → Type 0
IsSequenceFull index = index.sequence ≡ MAX_SEQUENCE

-- there is no room for one more name, and this name has no record
abbrev pub IsIndexFull : Listing → List ℕ → Type 0
IsIndexFull index name = (len index.records ≡ MAX_NAMES) × (get index.records name ≡ None)

-- the errors of a put
abbrev pub IsPutError : IndexError → Type 0
IsPutError error = (error ≡ SequenceFull) ⊎ (error ≡ IndexFull) ⊎ (error ≡ Memory)

-- the entry under this sequence number
abbrev pub numbered : Entry → ℕ → Entry
numbered entry sequence = record entry { sequence = sequence }

-- the index with the entry at its name, under the next number
abbrev pub after_put : Listing → Entry → Listing
after_put index entry =
    record index { sequence = index.sequence + 1; records = insert index.records entry.name (numbered entry (index.sequence + 1)) }

-- the index has this id, and has given this sequence: a point from which it can tell what came later (BEP v1,
-- 'Fields (ClusterConfig)', fields 'index_id' and 'max_sequence')
pub record IsPoint (index : Listing) (id sequence : ℕ) : Type 0 where
  pub same_index : id ≡ index.id
  pub not_zero : 1 ≤ sequence
  pub given : sequence ≤ index.sequence
