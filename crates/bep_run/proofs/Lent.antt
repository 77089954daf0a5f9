-- An event that is looked up in a log.
use Rattle.std.proofs.Common.{◌≡◌, ◌∙◌, ℕ, List, Option, Some, None, length, refl, sym, ap}
use Rattle.std.specs.Borrow.{Bor}
use Rattle.std.specs.List.{slice_get}
use Rattle.std.specs.Option.{option_copied}
use Rattle.std.specs.Slice.{IsItemAt}
use Rattle.std.proofs.lemmas.Option.{slice_get_past, slice_get_read}

-- what is lent of a place in a list is what stands there
lent_at : {X : Type 0} (xs : List X) (i : ℕ) (lent : Option (Bor X)) → IsItemAt xs i lent → option_copied lent ≡ slice_get xs i
lent_at xs i None at = sym (slice_get_past xs i at.3)
lent_at xs i (Some x) at = sym (slice_get_read xs (length xs) i x.now refl at.3.0 at.1)

-- it is what stands in a log behind the events of an older one
pub lent_behind : {X : Type 0} (old new before after : List X) (lent : Option (Bor X)) → before ≡ old → after ≡ new → IsItemAt after (length before) lent → option_copied lent ≡ slice_get new (length old)
lent_behind old new before after lent was is at =
    lent_at after (length before) lent at
    ∙ ap (λ n. slice_get after n) (ap length was)
    ∙ ap (λ log. slice_get log (length old)) is
