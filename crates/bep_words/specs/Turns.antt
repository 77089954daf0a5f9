-- How many turns words ask for.
use Rattle.std.specs.Prelude.{◌&&◌, ◌^◌, ℕ, Bool, List, Option, Some, None, codes, length, min, nat_lt, option_map, if◌then◌else◌}
use Rattle.std.specs.Char.{digit_value}
use Rattle.std.specs.List.{list_all}
use Rattle.std.specs.Str.Parse.{digits_value, without_leading_plus}
use Rattle.clap.specs.Words.{Row, Rule, Text, first_of, new_rule}
use Rattle.clap.specs.declared.builder.action.ArgAction.TheVariants.{Set}
use Rattle.clap.specs.declared.builder.value_parser.ValueParser.TheVariants.{Unsigned}
use Rattle.bep_words.specs.declared.turns.TheConstants.{MAX_TURNS}

-- the option with its value, a number of turns
abbrev pub turns_option : Rule
turns_option = record (new_rule (codes "turns")) { long = Some (codes "turns"); action = Some Set; value_names = 1; parser = Some (Unsigned 0 MAX_TURNS) }

-- whether the text is a number in decimal that 32 bits hold
abbrev pub is_number : Text → Bool
is_number digits = nat_lt 0 (length digits) && list_all (λ digit. nat_lt (digit_value digit) 10) digits && nat_lt (digits_value 10 digits) (2 ^ 32)

-- the number that the text says, up to the most turns; 0 where it says none
abbrev pub number_of : Text → ℕ
number_of text = let digits = without_leading_plus text in min (if is_number digits then digits_value 10 digits else 0) MAX_TURNS

-- the number in the value, 0 where there is none
abbrev pub number_in : Option Text → ℕ
number_in None = 0
number_in (Some value) = number_of value

-- the turns in a subcommand's matches
abbrev pub turns_under : Option (List Row) → ℕ
turns_under None = 0
turns_under (Some rows) = number_in (first_of (codes "turns") rows)

-- how many turns the subcommand in the words asks for
abbrev pub turns_of : Option (Text × List Row) → ℕ
turns_of met = turns_under (option_map (λ one. one.1) met)
