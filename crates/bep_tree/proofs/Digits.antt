-- A text of few digits is the number that they write.
use Rattle.std.proofs.Common.{◌≡◌, ◌∙◌, ℕ, ◌+◌, ◌*◌, ◌%◌, ◌<◌, ◌≤◌, ◌^◌, List, [], length, get_or, take, drop, true, false, ◌==◌, nat_lt, ◌-◌, pos, Option, None, Some, is_some, option_and_then, refl, sym, ap, arith, append-nil, take_all, length-take, zero-add}
use Rattle.std.proofs.lemmas.Bool.Decides.{nat_tests}
use Rattle.std.proofs.lemmas.List.{get_or_past}
use Rattle.std.proofs.lemmas.List.Sums.{prefix_len-drop_yes, prefix_len-drop_no}
use Rattle.std.proofs.lemmas.Str.Parse.{digit_at, digits_value_short, numerals_by_value, tells_digits}
use Rattle.std.specs.Char.{is_ascii_digit}
use Rattle.std.specs.Option.{SomeIff}
use Rattle.std.specs.Str.Parse.{digits_value, AllDigits, IsNumeral}
use Rattle.std.specs.Float.Numeral.{scan_numeral, digits_len, Parts}
use Rattle.fast_float.proofs.DigitsLemmas.{is_digit, no_digit}
use Rattle.fast_float.proofs.Integers.{digits_len_all}
use Rattle.fast_float.proofs.Rows.{AllDigits-digits_len, one_more}
use Rattle.serde_json.specs.Data.{unsigned}
use Rattle.serde_json.specs.Find.{as_i64}
use Rattle.serde_json.specs.Read.{number_of, number_from}
use Rattle.bep_tree.proofs.Signed.{unsigned_by}

pub few_digits_fit : (s : List ℕ) → AllDigits 10 s → length s ≤ 18 → digits_value 10 s < 10 ^ 18
few_digits_fit s all short = digits_value_short (numerals_by_value (AllDigits 10) tells_digits) s 18 all short

-- the first i bytes of s are digits
abbrev pub AreDigits : List ℕ → ℕ → Type 0
AreDigits s i = digits_len s ≡ i + digits_len (drop i s)

module _ (s : List ℕ) (i : ℕ) (within : i < length s) (before : AreDigits s i) (byte : get_or s i 0 < 256) where
  pub one_more_digit : (get_or s i 0 + 208) % 256 ≤ 9 → AreDigits s (i + 1)
  one_more_digit digit =
      let is = is_digit (get_or s i 0) (omega arith) (omega arith) in
      omega (arith, prefix_len-drop_yes is_ascii_digit s i 0 within is.0)

  pub one_more_value : (get_or s i 0 + 208) % 256 ≤ 9 → digits_value 10 (take i s) * 10 + (get_or s i 0 + 208) % 256 ≡ digits_value 10 (take (i + 1) s)
  one_more_value digit =
      let is = is_digit (get_or s i 0) (omega arith) (omega arith) in
      omega (arith, rw zero-add at (one_more s 0 i (omega arith)))

  pub one_more_fits : (get_or s i 0 + 208) % 256 ≤ 9 → length s ≤ 18 → digits_value 10 (take (i + 1) s) < 10 ^ 18
  one_more_fits digit short = few_digits_fit (take (i + 1) s) (AllDigits-digits_len s (i + 1) (omega (arith, one_more_digit digit))) (omega (arith, length-take (i + 1) s))

  pub not_all_digits : 9 < (get_or s i 0 + 208) % 256 → ¬ (AllDigits 10 s)
  not_all_digits other all = omega (arith, digits_len_all s all, prefix_len-drop_no is_ascii_digit s i 0 within (no_digit _ byte other))

pub all_are_digits : (s : List ℕ) (i : ℕ) → length s ≤ i → i ≤ length s → AreDigits s i → AllDigits 10 s
all_are_digits s i past within before = rw (take_all i s past) at (AllDigits-digits_len s i (omega arith))

-- the parts of digits alone
abbrev pub digits_alone : List ℕ → Parts
digits_alone s = record { whole = s; point = false; fraction = []; exponent_negative = false; exponent = []; len = length s }

scan_digits : (s : List ℕ) → AllDigits 10 s → scan_numeral s ≡ digits_alone s
unfolding scan_numeral
scan_digits s all =
    let end : 0 + digits_len s ≡ length s = omega (arith, digits_len_all s all) in
    let past : get_or s (length s) 0 ≡ 0 = get_or_past s (length s) 0 (omega arith) in
    let whole : take (length s - 0) s ≡ s = take_all (length s - 0) s (omega arith) in
    rw (end, past, past, whole) (refl {a = digits_alone s})

no_minus : (x : ℕ) → 48 ≤ x → (x == 45) ≡ false
no_minus x h = grind (arith, nat_tests)

from_digits_alone : (s : List ℕ) → 0 < length s → digits_value 10 s < 2 ^ 64 → number_from false (digits_alone s) ≡ Some (unsigned (digits_value 10 s))
from_digits_alone s some fits =
    let first : nat_lt 0 (length s) ≡ true = grind (arith, nat_tests) in
    let second : nat_lt (digits_value 10 s) (2 ^ 64) ≡ true = grind (arith, nat_tests) in
    rw (append-nil, first, second) refl

pub number_of_digits : (s : List ℕ) → IsNumeral 10 s → length s ≤ 18 → number_of s ≡ Some (unsigned (digits_value 10 s))
number_of_digits s is short =
    unsigned_by s (no_minus (get_or s 0 0) (digit_at s 0 is.1 is.0).0)
    ∙ ap (number_from false) (scan_digits s is.1)
    ∙ from_digits_alone s is.0 (omega (arith, few_digits_fit s is.1 short))

pub in_range_if_few : (s : List ℕ) (o : Option ℕ) → SomeIff o (IsNumeral 10 s × (length s ≤ 18)) (digits_value 10 s) → is_some o ≡ true → is_some o ≡ is_some (number_of s)
in_range_if_few s None is e = absurd (cc)
in_range_if_few s (Some n) is e = sym (ap is_some (number_of_digits s is.0.0 is.0.1))

pub signed_if_few : (s : List ℕ) (n : ℕ) → IsNumeral 10 s → length s ≤ 18 → n ≡ digits_value 10 s → option_and_then as_i64 (number_of s) ≡ Some (pos n)
signed_if_few s n is short e =
    let fits : nat_lt n (2 ^ 63) ≡ true = (let small : n < 10 ^ 18 = omega (arith, few_digits_fit s is.1 short) in grind (arith, nat_tests)) in
    ap (option_and_then as_i64) (number_of_digits s is short ∙ ap (λ m. Some (unsigned m)) (sym e)) ∙ rw fits refl
