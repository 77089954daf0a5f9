-- Short lists in JSON trees (this project's profile).
use Rattle.std.specs.Prelude.{ℕ, nat_le, List, length, Option, Some, None, if◌then◌else◌}
use Rattle.serde_json.specs.Data.{Data}
use Rattle.bep_json.specs.Reading.{◌>>=◌}
use Rattle.bep_json.specs.Lists.{read_list}

-- the things, if they are at most so many
abbrev pub if_few : {T : Type 0} → ℕ → List T → Option (List T)
if_few most things = if nat_le (length things) most then Some things else None

-- the things of a list, at most so many
abbrev pub read_few : {T : Type 0} → ℕ → (Data → Option T) → Data → Option (List T)
read_few most reads d = read_list reads d >>= if_few most
