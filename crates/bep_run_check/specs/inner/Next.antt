-- Which event comes next on the walk (this project's profile).
use Rattle.std.specs.Prelude.{List, [], ◌∷◌, Option, Some, None, fold, nat_lt, if◌then◌else◌}
use Rattle.bep_fit.specs.declared.stamped.Stamped.{Stamped}
use Rattle.bep_fit.specs.Walk.{Left}

abbrev pub first_of : List Stamped → Option Stamped
first_of [] = None
first_of (next ∷ more) = Some next

-- the one of the lesser ticket, the first of two alike
abbrev pub lesser : Option Stamped → Option Stamped → Option Stamped
lesser None other = other
lesser (Some one) None = Some one
lesser (Some one) (Some other) = if nat_lt other.ticket one.ticket then Some other else Some one

-- of what comes next in each log, the one of the least ticket
abbrev pub next_of : List Left → Option Stamped
next_of walk = fold (λ (least : Option Stamped) (one : Left). lesser least (first_of one.events)) None walk
