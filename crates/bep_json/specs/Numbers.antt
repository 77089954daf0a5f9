-- Whole numbers and booleans in JSON trees (this project's profile).
use Rattle.bep_record.specs.declared.kind.Kind.{Kind}
use Rattle.bep_record.specs.declared.kind.Kind.TheVariants.{File, Directory, Symlink}
use Rattle.std.specs.Prelude.{ℕ, ◌==◌, ◌&&◌, nat_le, Bool, ℤ, Option, Some, None, if◌then◌else◌, is_some, option_and_then}
use Rattle.serde_json.specs.Data.{Data}
use Rattle.serde_json.specs.Find.{as_bool, as_number, as_integer, as_u64, as_i64}
use Rattle.bep_json.specs.Reading.{◌>>=◌}

-- a number of 64 bits without fraction or exponent; `-0` is none
abbrev pub is_whole : Data → Bool
is_whole d = is_some (option_and_then as_integer (as_number d))

-- the number, if it is in this range
abbrev pub within : ℕ → ℕ → ℕ → Option ℕ
within low high n = if nat_le low n && nat_le n high then Some n else None

-- an unsigned number in a range
abbrev pub read_number : ℕ → ℕ → Data → Option ℕ
read_number low high d = option_and_then as_u64 (as_number d) >>= within low high

-- an unsigned number of 64 bits
abbrev pub read_unsigned : Data → Option ℕ
read_unsigned d = option_and_then as_u64 (as_number d)

-- a signed number of 64 bits
abbrev pub read_signed : Data → Option ℤ
read_signed d = option_and_then as_i64 (as_number d)

-- true or false
abbrev pub is_flag : Data → Bool
is_flag d = is_some (as_bool d)

-- which of the two
abbrev pub read_flag : Data → Option Bool
read_flag d = as_bool d

-- the greatest number of 64 bits
abbrev pub greatest_id : ℕ
greatest_id = 18446744073709551615

-- the kind with this number (BEP v1, 'FileInfoType')
abbrev pub kind_of : ℕ → Option Kind
kind_of n = if n == 0 then Some File else (if n == 1 then Some Directory else (if n == 4 then Some Symlink else None))

-- a kind, by its number
abbrev pub read_kind : Data → Option Kind
read_kind d = option_and_then as_u64 (as_number d) >>= kind_of
