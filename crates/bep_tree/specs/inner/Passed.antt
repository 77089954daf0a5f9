-- What follows a value whose numbers are in range.
use Rattle.std.specs.Prelude.{ℕ, Bool, cond, List, length, Option, Some, None}
use Rattle.json.specs.Json as json
use Rattle.json.specs.Token.{Token}
use Rattle.bep_tree.specs.inner.InRange.{is_in_range, items_in_range, members_in_range}

-- the tokens after what was read, if it passes the test
abbrev pub after : {A : Type 0} → (A → Bool) → Option (A × List Token) → Option (List Token)
after test None = None
after test (Some p) = cond (test p.0) (Some p.1) None

-- the tokens after a value whose numbers are in range, and which nests no deeper than the number
abbrev pub after_value : ℕ → List Token → Option (List Token)
after_value depth ts = after is_in_range (json.value depth ts)

-- the same of an array's items and its closing bracket, each item no deeper
abbrev pub after_items : ℕ → List Token → Option (List Token)
after_items depth ts = after items_in_range (json.items (json.value depth) (length ts) ts)

-- the same of an object's members
abbrev pub after_members : ℕ → List Token → Option (List Token)
after_members depth ts = after members_in_range (json.members (json.value depth) (length ts) ts)
