-- What a seat may tell of, by what is known of it where a type names its table.
use Rattle.std.proofs.Common.{◌≡◌, List, Option, Some, None, option_map, sym, ap, ◌∙◌, subst}
use Rattle.std.specs.Prelude.{IfSome}
use Rattle.atomic_table.specs.declared.shared.Seat.{Seat}
use Rattle.bep_fit.specs.declared.object.Object.{Object}
use Rattle.bep_fit.specs.declared.stamped.Stamped.{Stamped}
use Rattle.bep_history.specs.declared.view.View.{View}
use Rattle.bep_history.specs.Chair.{MayTell, MayTellBoth}
use Rattle.bep_history.specs.View.{MayAdd, joined, view_of}

to_these : (event : Option Stamped) (old : View) (listed : List Object) → IfSome event (λ one. (objects : List Object) → MayAdd objects old one) → IfSome event (MayAdd listed old)
to_these None old listed may = tt
to_these (Some event) old listed may = may listed

pub known_as : (place : Option (Seat Stamped View)) (known : Option View) (seat : Seat Stamped View) → option_map view_of place ≡ known → place ≡ Some seat → known ≡ Some (view_of seat)
known_as place known seat view_is is = sym view_is ∙ ap (option_map view_of) is

pub may_tell_of : (place : Option (Seat Stamped View)) (known : Option View) (seat : Seat Stamped View) (event : Option Stamped) (listed : List Object) →
    option_map view_of place ≡ known → place ≡ Some seat → MayTell known event → IfSome event (MayAdd listed (view_of seat))
may_tell_of place known seat event listed view_is is may =
    to_these event (view_of seat) listed (subst (λ k. MayTell k event) (known_as place known seat view_is is) may)

pub may_tell_of_both : (place other : Option (Seat Stamped View)) (known its_known : Option View) (seat its : Seat Stamped View) (event : Option Stamped) (listed : List Object) →
    option_map view_of place ≡ known → place ≡ Some seat → option_map view_of other ≡ its_known → other ≡ Some its →
    MayTellBoth known its_known event → IfSome event (MayAdd listed (joined (view_of seat) (view_of its)))
may_tell_of_both place other known its_known seat its event listed view_is is its_view_is is' may =
    to_these event (joined (view_of seat) (view_of its)) listed
    (subst (λ k. MayTellBoth k (Some (view_of its)) event) (known_as place known seat view_is is)
    (subst (λ k. MayTellBoth known k event) (known_as other its_known its its_view_is is') may)).1
