-- The whole number at a member of a document.
use Rattle.std.specs.Prelude.{ℕ, List, Option, option_and_then}
use Rattle.serde_json.specs.Data.{Data}
use Rattle.serde_json.specs.Find.{as_number, as_u64, get}

-- the whole number from 0 to 18446744073709551615 that this is, if it is one
abbrev pub whole_number : Data → Option ℕ
whole_number d = option_and_then as_u64 (as_number d)

-- the whole number at the member of this name, if there is one
abbrev pub number_at : List ℕ → Data → Option ℕ
number_at name d = option_and_then whole_number (get name d)
