-- What is told of a short list.
use Rattle.std.specs.Prelude.{ℕ, nat_le, List, length, Result, Ok, Err, if◌then◌else◌}
use Rattle.bep_json.specs.declared.told.Misread.{Misread}
use Rattle.bep_json.specs.declared.told.Misread.TheVariants.{Range}

-- the things, where they are at most so many
abbrev pub few_told : {T : Type 0} → ℕ → Result (List T) Misread → Result (List T) Misread
few_told most (Ok things) = if nat_le (length things) most then Ok things else Err Range
few_told most (Err misread) = Err misread
