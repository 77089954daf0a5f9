-- What holds of the history, of the counter of tickets and of all seats between any two calls (this project's profile).
use Rattle.std.specs.Prelude.{◌≡◌, ◌≢◌, ◌<◌, ◌==◌, ℕ, List, [], ◌∷◌, Contains, MatchBool}
use mathlib.Core.Option.{some}
use lib.ListN.{get_elem?}
use Rattle.atomic_table.specs.Table.{Me, State, Step}
use Rattle.bep_fit.specs.declared.object.Object.{Object}
use Rattle.bep_fit.specs.declared.stamped.Stamped.{Stamped}
use Rattle.bep_history.specs.declared.view.Row.{Row}
use Rattle.bep_history.specs.declared.view.View.{View}
use Rattle.bep_history.specs.Parts.{IsHistory, part_of}
use Rattle.bep_history.specs.View.{AreApart, IsAbove, IsTold, nothing, with_event, with_ticket, without_ticket}

-- Each row is the object's part of the history, and no other seat has it: `owner` names the one seat of an object, and
-- `drawer` that of a ticket. No event has a ticket that is drawn and not used.
pub record Knows (objects : List Object) (history : List Stamped) (next : ℕ) (owner : Object → ℕ) (drawer : ℕ → ℕ) (seat : ℕ) (old : View) : Type 0 where
  pub rows : (one : Row) → Contains old.rows one →
      (owner one.object ≡ seat) × (one.events ≡ part_of one.object history) × Contains objects one.object
  pub drawn : (ticket : ℕ) → Contains old.drawn ticket →
      (drawer ticket ≡ seat) × (ticket < next) × ((event : Stamped) → Contains history event → event.ticket ≢ ticket)
  pub claims : (event : Stamped) → Contains old.claims event → Contains history event
  pub apart : AreApart old.rows

-- The one word is the next ticket, and each event's ticket is below it. Each seat knows its part of one history.
pub record IsKept (objects : List Object) (s : State Stamped View) : Type 0 where
  pub history : List Stamped
  pub next : ℕ
  pub owner : Object → ℕ
  pub drawer : ℕ → ℕ
  pub word : s.words ≡ next ∷ []
  pub begun : 0 < next
  pub is_history : IsHistory objects history
  pub below : (event : Stamped) → Contains history event → event.ticket < next
  pub knows : (seat : ℕ) (old : View) → get_elem? s.views seat ≡ some old → Knows objects history next owner drawer seat old

abbrev Seated : Type 0
Seated = Me Stamped View

-- ---- what each step tells

-- the ticket that was found is drawn, if it is the expected one
abbrev pub Draws : Step Stamped → Seated → ℕ → Seated → Type 0
Draws s old found new =
    MatchBool (found == s.first) ((new ≡ (with_ticket found old.0, old.1)) × (0 < found) × IsAbove found old.0) (new ≡ old)

-- the event that was said is added
abbrev pub Adds : Step Stamped → Seated → ℕ → Seated → Type 0
Adds s old found new = (event : Stamped) → s.said ≡ some event → new ≡ (with_event event old.0, old.1)

abbrev pub GivesUp : Step Stamped → Seated → ℕ → Seated → Type 0
GivesUp s old found new = new ≡ (without_ticket old.0, old.1)

abbrev pub Learns : List Object → Step Stamped → Seated → ℕ → Seated → Type 0
Learns objects s old found new = IsTold objects old.0 × (new ≡ old)

abbrev pub Enters : Step Stamped → Seated → ℕ → Seated → Type 0
Enters s old found new = new.0 ≡ nothing
