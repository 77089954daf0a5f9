-- What is told of a list and its items.
use Rattle.std.specs.Prelude.{option_map, unwrap_or}
use Rattle.std.proofs.Common.{◌≡◌, Bool, false, Option, None, Err, sym, ap}
use Rattle.serde_json.specs.Data.{Data, Items}
use Rattle.serde_json.specs.Find.{as_array}
use Rattle.bep_json.specs.declared.told.Misread.TheVariants.{Shape}
use Rattle.bep_json.specs.Reading.{◌>>=◌}
use Rattle.bep_json.specs.Taking.{judged}
use Rattle.bep_row_document.specs.Listed.{is_listed, read_listed}

-- a value that is no list
pub others_are_none : {R : Type 0} (shapes : Items → Bool) (reads : Items → Option R) (d : Data) → as_array d ≡ None → Err Shape ≡ judged (is_listed shapes d) (read_listed reads d)
others_are_none shapes reads d none = sym (ap (λ items. judged (unwrap_or (option_map shapes items) false) (items >>= reads)) none)
