-- Lists in JSON trees whose items say each a thing of its own (this project's profile).
use Rattle.std.specs.Prelude.{Bool, false, Option, option_map, unwrap_or}
use Rattle.serde_json.specs.Data.{Data, Items}
use Rattle.serde_json.specs.Find.{as_array}
use Rattle.bep_json.specs.Reading.{◌>>=◌}

-- a list whose items have these shapes, each at its place
abbrev pub is_listed : (Items → Bool) → Data → Bool
is_listed have_shapes d = unwrap_or (option_map have_shapes (as_array d)) false

-- what its items say
abbrev pub read_listed : {R : Type 0} → (Items → Option R) → Data → Option R
read_listed reads d = as_array d >>= reads
