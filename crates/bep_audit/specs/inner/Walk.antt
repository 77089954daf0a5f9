-- The walk along a cut's names, as the code makes it (this project's profile).
use Rattle.std.specs.Prelude.{[], ◌≡◌, ℕ, ◌+◌, Bool, true, false, nat_lt, List, ◌∷◌, Option, Some, None, if◌then◌else◌}
use Rattle.std.specs.Ordering.{is_lt, is_eq}
use Rattle.std.specs.Borrow.{Bor}
use Rattle.bep_model.specs.declared.row.Row.{Row}
use Rattle.bep_model.specs.declared.reason.Reason.{Reason}
use Rattle.bep_model.specs.Tables.{Tables, Folder, FileName}
use Rattle.bep_model.specs.Settled.{key_of, key_cmp}
use Rattle.bep_model.specs.Reasons.{Place, place_cmp, Asks}
use Rattle.bep_model.specs.Verdict.{number_of}
use Rattle.bep_tables.specs.declared.table.entry.TableEntry.{TableEntry}
use Rattle.bep_tables.specs.Listed.{key_at, listed}
use Rattle.bep_audit.specs.inner.Search.{FindsFirst}
use Rattle.bep_audit.specs.Walk.{Failure, failure_cmp}

-- the folder and the name of a place
abbrev pub key_in : Place → Folder × FileName
key_in place = (place.folder, place.name)

-- a folder and a name that are lent
abbrev pub key_shown : Bor Folder × Bor FileName → Folder × FileName
key_shown lent = (lent.0.now, lent.1.now)

-- what is found of the reasons that fail at names of which this holds: nothing, or else the least, at its first place
abbrev pub FindsLeast : Tables → List Row → (Folder × FileName → Type 0) → Option Failure → Type 0
FindsLeast t rows Names = FindsFirst failure_cmp (λ one. Names (key_in one.place) → Asks t rows one.reason one.place)

-- what is found of the places of the row's name at which the reason fails, as if there were no other row
abbrev pub FindsHere : Tables → Row → Reason → Option Place → Type 0
FindsHere t row reason = FindsFirst place_cmp (λ place. key_in place ≡ key_of row → Asks t (row ∷ []) reason place)

-- whether a failure is of a lesser reason than the least so far
abbrev pub replaces : Option Failure → Option Failure → Bool
replaces None least = false
replaces (Some here) None = true
replaces (Some here) (Some least) = nat_lt (number_of here.reason) (number_of least.reason)

-- the lesser of the keys of the first entry and the first row
abbrev pub next_key : List TableEntry → List Row → Option (Folder × FileName)
next_key [] [] = None
next_key (entry ∷ entries) [] = Some (key_at (listed entry))
next_key [] (row ∷ rows) = Some (key_of row)
next_key (entry ∷ entries) (row ∷ rows) =
    if is_lt (key_cmp (key_of row) (key_at (listed entry))) then Some (key_of row) else Some (key_at (listed entry))

-- how many entries of the folder and name are at the front
abbrev pub count_at : Folder × FileName → List TableEntry → ℕ
count_at key [] = 0
count_at key (entry ∷ entries) = if is_eq (key_cmp (key_at (listed entry)) key) then 1 + count_at key entries else 0

-- how many rows at the front are about the folder and name: one or none
abbrev pub rows_about : Folder × FileName → List Row → ℕ
rows_about key [] = 0
rows_about key (row ∷ rows) = if is_eq (key_cmp (key_of row) key) then 1 else 0
