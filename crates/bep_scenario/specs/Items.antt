-- Words on JSON trees: the items of lists by their places, from 0.
use Rattle.std.specs.Prelude.{ℕ, ◌+◌, ◌&&◌, Bool, false, not, List, [], ◌∷◌, Option, option_map, unwrap_or, is_some}
use Rattle.serde_json.specs.Data.{Data}
use Rattle.serde_json.specs.Find.{at}
use Rattle.bep_json.specs.Reading.{◌>>=◌}

-- there is an item at this place of a list, and it has this shape
abbrev pub has_item : ℕ → (Data → Bool) → Data → Bool
has_item place shape d = unwrap_or (option_map shape (at place d)) false

-- if it is a list, it has at most this many items
abbrev pub ends_at : ℕ → Data → Bool
ends_at count d = not (is_some (at count d))

-- the items of a list from this place on have these shapes, and there are no more
abbrev pub has_items : ℕ → List (Data → Bool) → Data → Bool
has_items place [] d = ends_at place d
has_items place (shape ∷ more) d = has_item place shape d && has_items (place + 1) more d

-- the thing at a place of a list
abbrev pub read_item : {T : Type 0} → ℕ → (Data → Option T) → Data → Option T
read_item place reads d = at place d >>= reads
