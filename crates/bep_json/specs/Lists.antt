-- Lists in JSON trees, and version vectors (BEP v1, 'Vector').
use Rattle.std.specs.Prelude.{ℕ, ◌&&◌, nat_le, nat_lt, Bool, true, false, List, [], ◌∷◌, length, Option, Some, None, if◌then◌else◌, option_map, option_and_then, unwrap_or}
use Rattle.serde_json.specs.Data.{Data, Items, no_items, item}
use Rattle.serde_json.specs.Find.{as_array, as_number, as_u64}
use Rattle.bep_record.specs.Vector.{greatest_counter, most_counters}
use Rattle.bep_json.specs.Reading.{◌>>=◌}
use Rattle.bep_json.specs.Numbers.{is_whole}

-- each item has this shape
abbrev pub have_shape : (Data → Bool) → Items → Bool
have_shape shape no_items = true
have_shape shape (item d more) = shape d && have_shape shape more

-- a list, each item of which has this shape
abbrev pub is_list : (Data → Bool) → Data → Bool
is_list shape d = unwrap_or (option_map (have_shape shape) (as_array d)) false

-- the thing of each item, in order
abbrev pub read_items : {T : Type 0} → (Data → Option T) → Items → Option (List T)
read_items reads no_items = Some []
read_items reads (item d more) = do
  first ← reads d
  others ← read_items reads more
  Some (first ∷ others)

-- the things of a list
abbrev pub read_list : {T : Type 0} → (Data → Option T) → Data → Option (List T)
read_list reads d = as_array d >>= read_items reads

-- the items, where there are two
abbrev pub two_items : Items → Option (Data × Data)
two_items no_items = None
two_items (item a no_items) = None
two_items (item a (item b no_items)) = Some (a, b)
two_items (item a (item b (item c more))) = None

-- the items of a list of two
abbrev pub two_of : Data → Option (Data × Data)
two_of d = as_array d >>= two_items

-- a list of two whole numbers
unfoldable pub is_pair : Data → Bool
is_pair d = unwrap_or (option_map (λ two. is_whole two.0 && is_whole two.1) (two_of d)) false

-- two unsigned numbers
unfoldable pub read_pair : Data → Option (ℕ × ℕ)
read_pair d = do
  two ← two_of d
  first ← option_and_then as_u64 (as_number two.0)
  second ← option_and_then as_u64 (as_number two.1)
  Some (first, second)

-- the ids rise from above `low`, and each value is from 1 to 9223372036854775807, as a test
abbrev pub rises_above : ℕ → List (ℕ × ℕ) → Bool
rises_above low [] = true
rises_above low (counter ∷ more) = (nat_lt low counter.0 && (nat_le 1 counter.1 && nat_le counter.1 greatest_counter)) && rises_above counter.0 more

-- what pairs are a version vector, as a test
unfoldable pub is_version : List (ℕ × ℕ) → Bool
is_version pairs = rises_above 0 pairs && nat_le (length pairs) most_counters

-- the pairs, if they are a version vector
abbrev pub if_version : List (ℕ × ℕ) → Option (List (ℕ × ℕ))
if_version pairs = if is_version pairs then Some pairs else None

-- a version vector, from a list of pairs of id and value
unfoldable pub read_version : Data → Option (List (ℕ × ℕ))
read_version d = read_list read_pair d >>= if_version
