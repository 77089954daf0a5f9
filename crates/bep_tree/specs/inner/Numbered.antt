-- The whole number at a member of a document's value, which is found while the value is passed.
use Rattle.std.specs.Prelude.{ℕ, cond, List, Option, Some, None, option_and_then}
use Rattle.std.specs.Str.{bytes_eq}
use Rattle.json.specs.Find.{get}
use Rattle.json.specs.Json as json
use Rattle.json.specs.Token.{Token}
use Rattle.serde_json.specs.Find.{as_number, as_u64}
use Rattle.serde_json.specs.Read.{number_of}
use Rattle.bep_tree.specs.View.{data_of}
use Rattle.bep_tree.specs.inner.InRange.{is_in_range, members_in_range}

-- the whole number that a value is
abbrev pub whole_of : json.Json → Option ℕ
whole_of j = option_and_then as_u64 (as_number (data_of j))

-- the whole number that a value is which begins with this token
abbrev pub whole_begun : Token → Option ℕ
whole_begun Token.begin_object = None
whole_begun Token.end_object = None
whole_begun Token.begin_array = None
whole_begun Token.end_array = None
whole_begun (Token.key s) = None
whole_begun (Token.string s) = None
whole_begun (Token.number s) = option_and_then as_u64 (number_of s)
whole_begun (Token.boolean b) = None
whole_begun Token.null = None
whole_begun Token.bad = None

-- the whole number that a value is, and the tokens after it, if its numbers are in range
abbrev pub numbered : Option (json.Json × List Token) → Option (Option ℕ × List Token)
numbered None = None
numbered (Some p) = cond (is_in_range p.0) (Some (whole_of p.0, p.1)) None

-- the whole number at the last of these members that has the name; what was found before them, where none has
abbrev pub last_number : List ℕ → Option ℕ → json.Members → Option ℕ
last_number name found json.no_members = found
last_number name found (json.member k j ms) = last_number name (cond (bytes_eq k name) (whole_of j) found) ms

-- that number, and the tokens after the members, if their numbers are in range
abbrev pub found_among : List ℕ → Option ℕ → Option (json.Members × List Token) → Option (Option ℕ × List Token)
found_among name found None = None
found_among name found (Some p) = cond (members_in_range p.0) (Some (last_number name found p.0, p.1)) None

-- the whole number at the last member of this name in a value, and the tokens after it, if its numbers are in range
abbrev pub found_in : List ℕ → Option (json.Json × List Token) → Option (Option ℕ × List Token)
found_in name None = None
found_in name (Some p) = cond (is_in_range p.0) (Some (option_and_then whole_of (get name p.0), p.1)) None
