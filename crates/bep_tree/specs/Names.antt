-- The names of an object's members.
use Rattle.std.specs.Prelude.{ℕ, nat_eq, Bool, true, false, ◌&&◌, List, option_map, unwrap_or}
use Rattle.std.specs.List.{list_any}
use Rattle.std.specs.Cmp.Lexicographic.{pointwise}
use Rattle.serde_json.specs.Data.{Data, Members, no_members, member}
use Rattle.serde_json.specs.Find.{as_object}

-- this is one of these names
abbrev pub is_among : List ℕ → List (List ℕ) → Bool
is_among name names = list_any (λ known. pointwise nat_eq known name) names

-- each member has one of these names
abbrev pub are_among : List (List ℕ) → Members → Bool
are_among names no_members = true
are_among names (member name d more) = is_among name names && are_among names more

-- an object, each member of which has one of these names
abbrev pub has_only : List (List ℕ) → Data → Bool
has_only names d = unwrap_or (option_map (are_among names) (as_object d)) false
