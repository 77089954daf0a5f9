-- What the test of a name above the last one tells.
use Rattle.std.proofs.Common.{◌≡◌, true, Option, Some, None, refl}
use Rattle.std.specs.Ordering.{is_lt}
use Rattle.std.specs.declared.cmp.Ordering.{Ordering}
use Rattle.std.specs.declared.cmp.Ordering.TheVariants.{Less, Equal, Greater}
use Rattle.bep_model.specs.Settled.{key_cmp}
use Rattle.bep_row_document.specs.Faults.{is_above}
use Rattle.bep_rows.specs.Names.{IsAbove, Key}

less_from : (o : Ordering) → is_lt o ≡ true → o ≡ Less
less_from Less e = refl
less_from Equal e = absurd (cc)
less_from Greater e = absurd (cc)

pub above_from : (key : Key) (last : Option Key) → is_above key last ≡ true → IsAbove key last
above_from key None e = tt
above_from key (Some last) e = less_from (key_cmp last key) e
