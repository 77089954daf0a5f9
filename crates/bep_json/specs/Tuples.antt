-- What the items of a list say, each at its place.
use Rattle.std.specs.Prelude.{◌≡◌, ◌&&◌, ℕ, Bool, true, false, List, Option, None, Some, ⊤}
use Rattle.json.specs.Token.{Token}
use Rattle.serde_json.specs.Data.{Data, array, Items, no_items, item}
use Rattle.serde_json.specs.Find.{as_array}
use Rattle.bep_tree.specs.Walk.{StandItems}
use Rattle.bep_json.specs.Reading.{◌>>=◌}

-- the value is no list, and was passed; or it is one, and its items come next
abbrev pub EntersList : Option ℕ → Data → List Token → List Token → Type 0
EntersList None d next rest = (as_array d ≡ None) × (next ≡ rest)
EntersList (Some inside) d next rest = (ds : Items) × (d ≡ array ds) × StandItems inside next ds rest

-- no item is left
abbrev pub are_none : Items → Bool
are_none no_items = true
are_none (item d more) = false

-- an item of this shape is left, and then others of those
abbrev pub are_first : (Data → Bool) → (Items → Bool) → Items → Bool
are_first shape shapes no_items = false
are_first shape shapes (item d more) = shape d && shapes more

-- nothing is said
abbrev pub read_none : Items → Option ⊤
read_none ds = Some tt

-- the thing of the first item, and those of the others
abbrev pub read_first : {T R : Type 0} → (Data → Option T) → (Items → Option R) → Items → Option (T × R)
read_first reads read_others no_items = None
read_first reads read_others (item d more) = do
  first ← reads d
  others ← read_others more
  Some (first, others)
