-- A seat of the history that a type names, where it names one (this project's profile).
use Rattle.std.specs.Prelude.{◌≡◌, List, [], Option, Some, None, IfSome}
use Rattle.atomic_table.specs.Seated.{TableId}
use Rattle.atomic_table.specs.declared.shared.Seat.{Seat}
use Rattle.bep_fit.specs.declared.object.Object.{Object}
use Rattle.bep_fit.specs.declared.stamped.Stamped.{Stamped}
use Rattle.bep_history.specs.declared.view.View.{View}
use Rattle.bep_history.specs.View.{AreOfTwo, MayAdd, joined}

-- what is named, or else this
abbrev pub named_or : {A : Type 0} → Option A → A → A
named_or None one = one
named_or (Some named) one = named

-- the history's table is the one that is named, where one is
abbrev pub IsNamed : Option TableId → TableId → Type 0
IsNamed named table = named_or named table ≡ table

-- There is a seat of the table that is named, which holds nothing else; and none where none is named.
abbrev pub IsSeatOf : Option TableId → Option (Seat Stamped View) → Type 0
IsSeatOf None place = place ≡ None
IsSeatOf (Some named) None = ⊥
IsSeatOf (Some named) (Some seat) = (seat.table_id ≡ named) × (seat.me.1 ≡ [])

-- the event, if there is one, may be added to any history by a seat that knows this, if there is one
abbrev pub MayTell : Option View → Option Stamped → Type 0
MayTell known event = IfSome known (λ old. IfSome event (λ one. (objects : List Object) → MayAdd objects old one))

-- two seats with a row each, if there are any
abbrev pub AreTwo : Option View → Option View → Type 0
AreTwo known other = IfSome known (λ old. IfSome other (λ its. AreOfTwo old its))

-- the same of two seats together, with a row each
abbrev pub MayTellBoth : Option View → Option View → Option Stamped → Type 0
MayTellBoth known other event =
    IfSome known (λ old. IfSome other (λ its. AreOfTwo old its × IfSome event (λ one. (objects : List Object) → MayAdd objects (joined old its) one)))

-- what both own and know, if there is another one
abbrev pub joined_with : Option View → View → View
joined_with None old = old
joined_with (Some its) old = joined old its
