-- Which items of a list say a thing and others, and which values say a pair of numbers.
use Rattle.std.proofs.Common.{◌≡◌, ◌∙◌, ℕ, List, Bool, Option, Some, None, sym, ap}
use Rattle.json.specs.Token.{Token}
use Rattle.serde_json.specs.Data.{Data, Items, item}
use Rattle.serde_json.specs.Find.{as_array}
use Rattle.bep_json.specs.Taking.{judged, both}
use Rattle.bep_json.specs.Tuples.{EntersList, are_first, read_first}
use Rattle.bep_json.proofs.TakingFacts.{both_is}

-- what is told of the first item and of the others
pub first_told : {T R : Type 0} (shape : Data → Bool) (shapes : Items → Bool) (reads : Data → Option T) (read_others : Items → Option R) (d : Data) (ds more : Items) → ds ≡ item d more
    → both (judged (shape d) (reads d)) (judged (shapes more) (read_others more)) ≡ judged (are_first shape shapes ds) (read_first reads read_others ds)
first_told shape shapes reads read_others d ds more is =
    both_is (shape d) (shapes more) (reads d) (read_others more) ∙ sym (ap (λ ds. judged (are_first shape shapes ds) (read_first reads read_others ds)) is)

-- a value that is no list was passed
pub passed_list : (inside : Option ℕ) (d : Data) (next rest : List Token) → inside ≡ None → as_array d ≡ None → next ≡ rest → EntersList inside d next rest
passed_list None d next rest none is passed = (is, passed)
passed_list (Some inside) d next rest none is passed = cc
