-- How many keys a map has.
use Rattle.std.proofs.Common.{◌≡◌, length}
use Rattle.std.proofs.lemmas.List.{length-map}
use Rattle.std.specs.declared.cmp.Ordering.{Ordering}
use Rattle.std.specs.FinMap.{FinMap, entries, keys}

pub as_many : {K V : Type 0} {R : K → K → Ordering} (m : FinMap R V) → length (keys m) ≡ length (entries m)
as_many m = length-map (entries m) (λ e. e.0)
