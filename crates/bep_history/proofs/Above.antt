-- A ticket that is above those of all events that seats know of.
use Rattle.std.proofs.Common.{◌≡◌, ◌<◌, ℕ, Option, Some, None, option_map, Contains, sym, ap, ◌∙◌, subst}
use Rattle.std.specs.Prelude.{IfSome}
use Rattle.std.proofs.lemmas.List.Elements.{Contains-append_left, Contains-append_right}
use Rattle.atomic_table.specs.Seated.{TableId}
use Rattle.atomic_table.specs.declared.shared.Seat.{Seat}
use Rattle.bep_fit.specs.declared.stamped.Stamped.{Stamped}
use Rattle.bep_history.specs.declared.view.View.{View}
use Rattle.bep_history.specs.Chair.{IsSeatOf}
use Rattle.bep_history.specs.View.{IsAbove, joined, view_of}
use Rattle.bep_history.proofs.Chairs.{known_as}

-- what is above all that two seats know together is above all that each knows
pub above_each : (ticket : ℕ) (old its both : View) → both ≡ joined old its → IsAbove ticket both → IsAbove ticket old × IsAbove ticket its
above_each ticket old its both is above = (
  λ one event stands has. above one event (subst (λ (v : View). Contains v.rows one) (sym is) (Contains-append_right its.rows old.rows one stands)) has,
  λ one event stands has. above one event (subst (λ (v : View). Contains v.rows one) (sym is) (Contains-append_left its.rows old.rows one stands)) has,
)

-- the same, by what a type names
pub above_known : (place : Option (Seat Stamped View)) (known : Option View) (seat : Seat Stamped View) (ticket : ℕ) →
    option_map view_of place ≡ known → place ≡ Some seat → IsAbove ticket (view_of seat) → IfSome known (IsAbove ticket)
above_known place known seat ticket view_is is above = subst (λ (k : Option View). IfSome k (IsAbove ticket)) (sym (known_as place known seat view_is is)) above

pub above_nobody : (place : Option (Seat Stamped View)) (known : Option View) (ticket : ℕ) → option_map view_of place ≡ known → place ≡ None → IfSome known (IsAbove ticket)
above_nobody place known ticket view_is none = subst (λ (k : Option View). IfSome k (IsAbove ticket)) (sym (sym view_is ∙ ap (option_map view_of) none)) tt

-- where nobody sits at one place of a table, nobody sits at another
pub nobody_too : (table : Option TableId) (place other : Option (Seat Stamped View)) → IsSeatOf table place → IsSeatOf table other → other ≡ None → place ≡ None
nobody_too None place other is its none = is
nobody_too (Some table) place other is its none = absurd (subst (IsSeatOf (Some table)) none its)
