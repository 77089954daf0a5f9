-- Which lists say a pair of numbers.
use Rattle.std.specs.Prelude.{⊤, option_map, unwrap_or}
use Rattle.std.proofs.Math.Bool.{and-true}
use Rattle.std.proofs.Common.{◌≡◌, ◌∙◌, ℕ, ◌&&◌, Bool, true, false, Option, Some, None, Err, refl, sym, ap}
use Rattle.serde_json.specs.Data.{Data, array, Items, no_items, item}
use Rattle.serde_json.specs.Find.{as_array}
use Rattle.bep_json.specs.declared.told.Misread.TheVariants.{Shape}
use Rattle.bep_json.specs.Reading.{◌>>=◌}
use Rattle.bep_json.specs.Numbers.{is_whole, read_unsigned}
use Rattle.bep_json.specs.Lists.{two_items, is_pair, read_pair}
use Rattle.bep_json.specs.Taking.{judged, told_as}
use Rattle.bep_json.specs.Tuples.{are_none, are_first, read_none, read_first}
use Rattle.bep_json.proofs.TakingFacts.{told_as_is, read_3}

pub others_are_no_pair : (d : Data) → as_array d ≡ None → Err Shape ≡ judged (is_pair d) (read_pair d)
unfolding is_pair
others_are_no_pair d none =
    sym (ap (λ items. judged (unwrap_or (option_map (λ two. is_whole two.0 && is_whole two.1) (items >>= two_items)) false) (read_pair d)) none)

-- the items are one number, and then another, and no more
abbrev pub are_two : Items → Bool
are_two ds = are_first is_whole (are_first is_whole are_none) ds

abbrev pub read_two : Items → Option (ℕ × (ℕ × ⊤))
read_two ds = read_first read_unsigned (read_first read_unsigned read_none) ds

abbrev pub pair_of : ℕ × (ℕ × ⊤) → ℕ × ℕ
pair_of numbers = (numbers.0, numbers.1.0)

-- ---- where the shape is another, no matter what is read

no_shape : {T : Type 0} (a : Bool) (read other : Option T) → judged (a && false) read ≡ judged false other
no_shape true read other = refl
no_shape false read other = refl

neither_shape : {T : Type 0} (a b : Bool) (read other : Option T) → judged (a && (b && false)) read ≡ judged false other
neither_shape true b read other = no_shape b read other
neither_shape false b read other = refl

pub items_are_pair : (ds : Items) → told_as pair_of (judged (are_two ds) (read_two ds)) ≡ judged (is_pair (array ds)) (read_pair (array ds))
unfolding is_pair read_pair
items_are_pair no_items = refl
items_are_pair (item a no_items) = told_as_is pair_of (is_whole a && false) (read_two (item a no_items)) ∙ no_shape (is_whole a) (option_map pair_of (read_two (item a no_items))) None
items_are_pair (item a (item b no_items)) =
    told_as_is pair_of (is_whole a && (is_whole b && true)) (read_two (item a (item b no_items)))
    ∙ ap (λ last. judged (is_whole a && last) (option_map pair_of (read_two (item a (item b no_items))))) (and-true (is_whole b))
    ∙ ap (judged (is_whole a && is_whole b)) (read_3 pair_of (read_unsigned a) (read_unsigned b) (Some tt))
items_are_pair (item a (item b (item c more))) =
    told_as_is pair_of (is_whole a && (is_whole b && false)) (read_two (item a (item b (item c more)))) ∙ neither_shape (is_whole a) (is_whole b) (option_map pair_of (read_two (item a (item b (item c more))))) None
