-- A number's text by its sign.
use Rattle.std.proofs.Common.{◌≡◌, ℕ, List, drop, get_or, Bool, true, false, ◌==◌, ◌&&◌, ◌^◌, nat_lt, nat_le, if◌then◌else◌, Some, None, option_and_then, refl}
use Rattle.std.specs.Float.{binary64, float_is_finite}
use Rattle.fast_float.specs.Text.{Parts, scan, digits_of, nearest, with_sign}
use Rattle.serde_json.specs.Data.{negative, float}
use Rattle.serde_json.specs.Find.{as_u64}
use Rattle.serde_json.specs.Read.{is_integer, number_of, number_from}

pub below_zero_by : (s : List ℕ) → (get_or s 0 0 == 45) ≡ true → number_of s ≡ number_from true (scan (drop 1 s))
unfolding number_of
below_zero_by s signed = rw signed

pub unsigned_by : (s : List ℕ) → (get_or s 0 0 == 45) ≡ false → number_of s ≡ number_from false (scan s)
unfolding number_of
unsigned_by s unsigned = rw unsigned

-- no number below zero is unsigned
pub none_below_zero : (p : Parts) → option_and_then as_u64 (number_from true p) ≡ None
none_below_zero p = by_fit (is_integer p && nat_lt 0 (digits_of p) && nat_le (digits_of p) (2 ^ 63)) (float_is_finite (nearest binary64 true p))
  where
    by_fit : (fits finite : Bool) → option_and_then as_u64 (if fits then Some (negative (with_sign true (digits_of p))) else (if finite then Some (float (nearest binary64 true p)) else None)) ≡ None
    by_fit true finite = refl
    by_fit false true = refl
    by_fit false false = refl
