-- What the table of digits says.
use Rattle.std.specs.Prelude.{ℕ, nat_le, Option, Some, None, if◌then◌else◌}

-- the digit's value that the table says, if it says one
abbrev pub digit_of : ℕ → Option ℕ
digit_of value = if nat_le value 15 then Some value else None
