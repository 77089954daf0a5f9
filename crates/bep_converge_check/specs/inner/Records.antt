-- The valid records among the entries of a name, and the top of them (this project's profile).
use Rattle.std.specs.Prelude.{◌≡◌, ℕ, List, Option, Some, None, Contains, if◌then◌else◌}
use Rattle.bep_record.specs.declared.entry.Entry.{Entry}
use Rattle.bep_record.specs.Vector.{IsAtMost}
use Rattle.bep_tables.specs.declared.table.entry.Source.TheVariants.{Own}
use Rattle.bep_tables.specs.Listed.{Holding, Record, Node, Listed}

-- the record, if it is valid
abbrev pub valid_of : Entry → Option Entry
valid_of entry = if entry.invalid then None else Some entry

-- the valid record that is held
abbrev pub valid_held : Holding → Option Entry
valid_held (Record source entry) = valid_of entry
valid_held (Node node) = None

-- the same, if it is the device's own
abbrev pub own_held : Holding → Option Entry
own_held (Record Own entry) = valid_of entry
own_held (Record source entry) = None
own_held (Node node) = None

-- one of these entries holds this valid record
abbrev pub IsIn : List Listed → Entry → Type 0
IsIn group entry = (one : Listed) × Contains group one × (valid_held one.holding ≡ Some entry)

-- as its device's own
abbrev pub IsOwnIn : List Listed → Entry → Type 0
IsOwnIn group entry = (one : Listed) × Contains group one × (own_held one.holding ≡ Some entry)

-- each of their valid records has a version at most this one
abbrev pub IsAbove : List Listed → List (ℕ × ℕ) → Type 0
IsAbove group version = (entry : Entry) → IsIn group entry → IsAtMost entry.version version

-- the top of their valid records: some device's own record, which is above all
abbrev pub IsTopIn : List Listed → Entry → Type 0
IsTopIn group top = IsOwnIn group top × IsAbove group top.version
