-- What a map from names is.
use Rattle.std.specs.Ordering.{nat_cmp}
use Rattle.std.specs.Cmp.Lexicographic.{slice_cmp}
use Rattle.std.specs.FinMap.{FinMap}

-- a finite map from names, as lists of bytes, to values
abbrev pub ByName : Type 0 → Type 0
ByName V = FinMap (slice_cmp nat_cmp) V
