-- Records in the order of their sequences (BEP v1, 'FileInfo', field 'sequence').
use Rattle.std.specs.Prelude.{◌≡◌, ◌≢◌, ℕ, suc, ◌<◌, ◌≤◌, List, [], ◌∷◌, ◌++◌, map, slice_get, Bool, false, nat_le, Option, Some, None, if◌then◌else◌}
use Rattle.std.specs.Ordering.{nat_cmp, eq_by_cmp}
use Rattle.std.specs.Cmp.Lexicographic.{slice_cmp}
use Rattle.std.specs.FinMap.{FinMap, from_entries, values}
use Rattle.bep_map.specs.NameMap.{ByName}
use Rattle.bep_record.specs.declared.entry.Entry.{Entry}
use Rattle.bep_index.specs.Batch.{Rises, NamesDiffer, last_sequence}
use Rattle.bep_index.specs.After.{IsAmong}
use Rattle.bep_index.specs.declared.limits.TheConstants.{MAX_SEQUENCE}

-- each record beside its sequence
abbrev pub with_sequences : List Entry → List (ℕ × Entry)
with_sequences entries = map (λ entry. (entry.sequence, entry)) entries

-- the records, each at its sequence
abbrev pub by_sequence : ByName Entry → FinMap nat_cmp Entry
by_sequence records = from_entries (with_sequences (values records))

-- the records by rising sequence
abbrev pub in_order : ByName Entry → List Entry
in_order records = values (by_sequence records)

-- how many of these have at most this sequence
abbrev pub count_up_to : ℕ → List Entry → ℕ
count_up_to sequence [] = 0
count_up_to sequence (entry ∷ more) = if nat_le entry.sequence sequence then suc (count_up_to sequence more) else count_up_to sequence more

-- ---- how an index keeps its records

-- by rising sequence, each name once
pub record AreInOrder (entries : List Entry) : Type 0 where
  pub rises : Rises 0 entries
  pub names : NamesDiffer entries

-- each of these under its name
abbrev pub named : List Entry → List (List ℕ × Entry)
named entries = map (λ entry. (entry.name, entry)) entries

-- without the one of this name
abbrev pub without : List ℕ → List Entry → List Entry
without name [] = []
without name (entry ∷ more) = if eq_by_cmp (slice_cmp nat_cmp) name entry.name then more else entry ∷ without name more

-- with this one at the place of its sequence
abbrev pub put_in : Entry → List Entry → List Entry
put_in entry [] = entry ∷ []
put_in entry (first ∷ more) = if nat_le first.sequence entry.sequence then first ∷ put_in entry more else entry ∷ first ∷ more

-- whether it has at most this sequence; not where there is none
abbrev pub is_up_to : Option Entry → ℕ → Bool
is_up_to None sequence = false
is_up_to (Some entry) sequence = nat_le entry.sequence sequence

-- the name has again what it had before
abbrev pub back_in : List Entry → List ℕ → Option Entry → List Entry
back_in entries name None = without name entries
back_in entries name (Some entry) = put_in entry (without name entries)

-- what the name had before: a record of the name under a number that no other has
abbrev pub IsBefore : List Entry → List ℕ → Option Entry → Type 0
IsBefore entries name None = Unit {0}
IsBefore entries name (Some entry) =
    (entry.name ≡ name) × (1 ≤ entry.sequence) × (entry.sequence < last_sequence 0 entries) × ((other : Entry) → IsAmong other entries → other.sequence ≢ entry.sequence)

-- the last of these is of the name, which had this before
pub record IsGivenBack (entries : List Entry) (name : List ℕ) (old : Option Entry) : Type 0 where
  pub last : (rest : List Entry) × (entry : Entry) × (entries ≡ rest ++ entry ∷ []) × (entry.name ≡ name)
  pub before : IsBefore entries name old

-- the one at the place has the name
pub record IsAt (entries : List Entry) (place : ℕ) (name : List ℕ) : Type 0 where
  pub entry : Entry
  pub there : slice_get entries place ≡ Some entry
  pub named : entry.name ≡ name

-- it comes after all of these
pub record IsLater (entries : List Entry) (entry : Entry) : Type 0 where
  pub above : last_sequence 0 entries < entry.sequence
  pub within : entry.sequence ≤ MAX_SEQUENCE
