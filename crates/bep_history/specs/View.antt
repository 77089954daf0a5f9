-- What a seat owns and knows of the history, and what each call makes of it (this project's profile).
use Rattle.std.specs.Prelude.{◌≡◌, ◌<◌, ℕ, true, ⊤, List, [], ◌∷◌, ◌++◌, map, if◌then◌else◌, Contains, Option, Some, None}
use Rattle.std.specs.List.{flat_map}
use Rattle.atomic_table.specs.declared.shared.Seat.{Seat}
use Rattle.bep_fit.specs.declared.object.Object.{Object}
use Rattle.bep_fit.specs.declared.stamped.Stamped.{Stamped}
use Rattle.bep_fit.specs.Logs.{named}
use Rattle.bep_history.specs.declared.view.Row.{Row}
use Rattle.bep_history.specs.declared.view.View.{View}
use Rattle.bep_history.specs.Parts.{IsHistory, is_about, part_of}

abbrev pub row : Object → List Stamped → Row
row object events = record { object = object; events = events }

abbrev pub view : List Row → List ℕ → List Stamped → View
view rows drawn claims = record { rows = rows; drawn = drawn; claims = claims }

-- a seat that owns and knows nothing
abbrev pub nothing : View
nothing = view [] [] []

-- all objects, each without an event
abbrev pub beginning : List Object → View
beginning objects = view (map (λ object. row object []) objects) [] []

-- one of the rows is the object's
abbrev pub HasRow : List Row → Object → Type 0
HasRow rows object = (one : Row) × Contains rows one × (one.object ≡ object)

-- no two rows are of one object
abbrev pub AreApart : List Row → Type 0
AreApart [] = ⊤
AreApart (one ∷ more) = (¬ HasRow more one.object) × AreApart more

-- no object stands twice
abbrev pub AreDistinct : List Object → Type 0
AreDistinct [] = ⊤
AreDistinct (object ∷ more) = (¬ Contains more object) × AreDistinct more

-- what a seat knows and owns
abbrev pub view_of : Seat Stamped View → View
view_of seat = seat.me.0

-- ---- tickets

-- with this ticket alone
abbrev pub with_ticket : ℕ → View → View
with_ticket ticket old = record old { drawn = ticket ∷ [] }

abbrev pub without_ticket : View → View
without_ticket old = record old { drawn = [] }

-- the ticket is above those of all events in the rows
abbrev pub IsAbove : ℕ → View → Type 0
IsAbove ticket old = (one : Row) (event : Stamped) → Contains old.rows one → Contains one.events event → event.ticket < ticket

-- ---- events

-- the row with the event at its end, if it touches the row's object
abbrev pub row_with : Stamped → Row → Row
row_with event old = record old { events = if is_about old.object event then old.events ++ event ∷ [] else old.events }

-- the rows with the event, and its ticket is used
abbrev pub with_event : Stamped → View → View
with_event event old = record old { rows = map (row_with event) old.rows; drawn = [] }

-- the row with the event, if there is one, or the ticket alone is used
abbrev pub told : Option Stamped → View → View
told None old = without_ticket old
told (Some event) old = with_event event old

-- The seat drew the event's ticket, and owns each object that the event touches, and each that it names.
pub record MayAdd (objects : List Object) (old : View) (event : Stamped) : Type 0 where
  pub drawn : Contains old.drawn event.ticket
  pub owned : (object : Object) → Contains objects object → is_about object event ≡ true → HasRow old.rows object
  pub there : (object : Object) → Contains (named event) object → HasRow old.rows object

-- There is one history, of which each row is the object's part, and which has each event that is claimed.
pub record IsTold (objects : List Object) (old : View) : Type 0 where
  pub history : List Stamped
  pub is_history : IsHistory objects history
  pub parts : (one : Row) → Contains old.rows one → one.events ≡ part_of one.object history
  pub claims : (event : Stamped) → Contains old.claims event → Contains history event

-- ---- seats

-- what both own and know, the other's first
abbrev pub joined : View → View → View
joined old other = view (other.rows ++ old.rows) (other.drawn ++ old.drawn) (other.claims ++ old.claims)

abbrev pub first_of : List Row → List Row
first_of [] = []
first_of (one ∷ more) = one ∷ []

abbrev pub rest_of : List Row → List Row
rest_of [] = []
rest_of (one ∷ more) = more

-- the first row alone
abbrev pub first_row : View → View
first_row old = view (first_of old.rows) [] []

-- all but the first row
abbrev pub other_rows : View → View
other_rows old = record old { rows = rest_of old.rows }

-- Two seats with a row each and no claims. The second one has drawn no ticket.
pub record AreOfTwo (old other : View) : Type 0 where
  pub own : Row
  pub its : Row
  pub own_rows : old.rows ≡ own ∷ []
  pub its_rows : other.rows ≡ its ∷ []
  pub own_claims : old.claims ≡ []
  pub its_claims : other.claims ≡ []
  pub its_drawn : other.drawn ≡ []

-- a claim to each event that the seat knows of
abbrev pub claims_of : View → View
claims_of old = view [] [] (old.claims ++ flat_map (λ one. one.events) old.rows)
