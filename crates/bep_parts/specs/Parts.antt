-- A cut in parts by names: a part has all that the cut says of the names that it keeps, and nothing of other names (this
-- project's profile).
use Rattle.std.specs.Prelude.{◌≡◌, ◌↔◌, Bool, true, not, List, map, Option, None, Contains, if◌then◌else◌}
use Rattle.std.specs.List.{filter}
use Rattle.bep_model.specs.declared.flight.Flight.{Flight}
use Rattle.bep_model.specs.declared.row.Row.{Row}
use Rattle.bep_model.specs.Tables.{Tables, Folder, FileName}

-- which names a part keeps
abbrev pub Keeps : Type 0
Keeps = Folder → FileName → Bool

-- all names but these
abbrev pub all_but : Keeps → Keeps
all_but keeps folder name = not (keeps folder name)

-- what stands at a name, where the name is kept
abbrev pub if_kept : {X : Type 0} → Bool → Option X → Option X
if_kept kept here = if kept then here else None

-- a message with its records of kept names alone; it stays even if none is left
abbrev pub flight_of : Keeps → Flight → Flight
flight_of keeps flight = record { folder = flight.folder; full = flight.full; records = filter (λ entry. keeps flight.folder entry.name) flight.records }

-- What is said of the kept names. A carried record is kept by its own name, all else by the name at which it stands. Each part
-- says who shares what.
abbrev pub only : Keeps → Tables → Tables
only keeps t = record {
  sharing = t.sharing;
  own = λ device folder name. if_kept (keeps folder name) (t.own device folder name);
  node = λ device folder name. if_kept (keeps folder name) (t.node device folder name);
  viewed = λ device other folder name. if_kept (keeps folder name) (t.viewed device other folder name);
  target = λ device folder name. if_kept (keeps folder name) (t.target device folder name);
  flying = λ sender receiver. map (flight_of keeps) (t.flying sender receiver);
}

-- the rows of the kept names, in their order
abbrev pub rows_of : Keeps → List Row → List Row
rows_of keeps rows = filter (λ row. keeps row.folder row.entry.name) rows

-- a part that is audited by itself, with its rows
pub record Part : Type 0 where
  pub keeps : Keeps
  pub rows : List Row

-- some part keeps the name
abbrev pub IsInSome : List Keeps → Folder → FileName → Type 0
IsInSome parts folder name = (keeps : Keeps) × Contains parts keeps × (keeps folder name ≡ true)

-- these are exactly the rows of all parts
abbrev pub AreRowsOf : List Part → List Row → Type 0
AreRowsOf parts rows = (row : Row) → Contains rows row ↔ ((part : Part) × Contains parts part × Contains part.rows row)
