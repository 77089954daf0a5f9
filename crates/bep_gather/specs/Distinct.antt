-- A list in order, each of its elements once.
use Rattle.std.specs.Prelude.{Bool, true, List, [], ◌∷◌, if◌then◌else◌}
use Rattle.std.specs.declared.cmp.Ordering.{Ordering}
use Rattle.std.specs.Ordering.{is_lt}

-- whether an element is below the one that comes next, if any does
abbrev pub is_below_next : {X : Type 0} → (X → X → Ordering) → X → List X → Bool
is_below_next cmp one [] = true
is_below_next cmp one (next ∷ more) = is_lt (cmp one next)

-- those that are below the next
abbrev pub distinct : {X : Type 0} → (X → X → Ordering) → List X → List X
distinct cmp [] = []
distinct cmp (one ∷ more) = if is_below_next cmp one more then one ∷ distinct cmp more else distinct cmp more
