-- Hexadecimal digits by the table of their values.
use Rattle.std.proofs.Common.{◌≡◌, ◌∙◌, ℕ, zero, suc, ◌+◌, ◌*◌, ◌<◌, ◌≤◌, ◌==◌, ◌&&◌, ◌||◌, ◌⊎◌, nat_le, Bool, true, slice_index, Option, Some, None, Result, Ok, Err, refl, sym, ap, arith, inl, inr}
use Rattle.std.specs.Result.{result_ok}
use Rattle.std.proofs.lemmas.Bool.{and_parts, cases_lt, eqb-true}
use Rattle.std.proofs.lemmas.Bool.Decides.{nat_tests}
use Rattle.hex.specs.Hex.{digit_or_error, hex_digit_value, pair_value, ◌>>=◌}
use Rattle.hex.specs.declared.error.FromHexError.{FromHexError}
use Rattle.bep_json.specs.declared.digits.TheConstants.{VALUES}
use Rattle.bep_json.specs.inner.Digits.{digit_of}

-- ---- the table is right at each byte

number_of : Option ℕ → ℕ
number_of None = 0
number_of (Some value) = suc value

told_by : ℕ → Option ℕ
told_by zero = None
told_by (suc value) = Some value

told_back : (digit : Option ℕ) → told_by (number_of digit) ≡ digit
unfolding told_by number_of
told_back None = refl
told_back (Some value) = refl

is_right : ℕ → Bool
is_right byte = number_of (digit_of (slice_index VALUES byte)) == number_of (hex_digit_value byte)

all_below : (ℕ → Bool) → ℕ → Bool
all_below test zero = true
all_below test (suc n) = test n && all_below test n

below : (test : ℕ → Bool) (n k : ℕ) → all_below test n ≡ true → k < n → test k ≡ true
unfolding all_below
below test zero k all less = absurd (omega arith)
below test (suc n) k all less =
    let parts = and_parts (test n) (all_below test n) all in
    elim (cases_lt k n) [
      | inl lower ↦ below test n k parts.1 lower
      | inr top ↦
          let same : k ≡ n = omega arith in
          rw same parts.0
    ]

all_right : all_below is_right 256 ≡ true
unfolding all_below is_right number_of
all_right = refl

pub table_right : (byte : ℕ) → byte < 256 → digit_of (slice_index VALUES byte) ≡ hex_digit_value byte
unfolding is_right number_of
table_right byte less =
    let right = eqb-true (number_of (digit_of (slice_index VALUES byte))) (number_of (hex_digit_value byte)) (below is_right 256 byte all_right less) in
    sym (told_back (digit_of (slice_index VALUES byte))) ∙ ap told_by right ∙ told_back (hex_digit_value byte)

is_bounded : ℕ → Bool
is_bounded byte = nat_le (slice_index VALUES byte) 15 || slice_index VALUES byte == 256

all_bounded : all_below is_bounded 256 ≡ true
unfolding all_below is_bounded
all_bounded = refl

abbrev pub IsBounded : ℕ → Type 0
IsBounded value = (value ≤ 15) ⊎ (value ≡ 256)

pub table_bounded : (byte : ℕ) → byte < 256 → IsBounded (slice_index VALUES byte)
unfolding is_bounded
table_bounded byte less = by_test (slice_index VALUES byte) (below is_bounded 256 byte all_bounded less)
  where
    by_test : (value : ℕ) → nat_le value 15 || value == 256 ≡ true → IsBounded value
    by_test value holds = grind (arith, nat_tests)

-- ---- pairs

-- the byte of two digits, if both are
abbrev pub both : Option ℕ → Option ℕ → Option ℕ
both (Some high) (Some low) = Some (high * 16 + low)
both (Some high) None = None
both None low = None

both_read : (high low place : ℕ) (one other : Option ℕ) →
    result_ok (digit_or_error high place one >>= λ h. (digit_or_error low (place + 1) other >>= λ l. Ok (h * 16 + l))) ≡ both one other
both_read high low place (Some h) (Some l) = refl
both_read high low place (Some h) None = refl
both_read high low place None other = refl

pub pair_read : (high low place : ℕ) → result_ok (pair_value high low place) ≡ both (hex_digit_value high) (hex_digit_value low)
pair_read high low place = both_read high low place (hex_digit_value high) (hex_digit_value low)

-- ---- results

pub is_ok : {A : Type 0} (read : Result A FromHexError) (value : A) → Some value ≡ result_ok read → read ≡ Ok value
is_ok (Ok found) value is = cc
is_ok (Err error) value is = absurd (cc)

pub is_err : {A : Type 0} (read : Result A FromHexError) → None ≡ result_ok read → (error : FromHexError) × (read ≡ Err error)
is_err (Ok found) is = absurd (cc)
is_err (Err error) is = (error, refl)

-- ---- values

is_small : (value : ℕ) → value ≤ 15 → digit_of value ≡ Some value
is_small value small = grind (arith)

both_small : (high low : ℕ) → high ≤ 15 → low ≤ 15 → both (digit_of high) (digit_of low) ≡ Some (high * 16 + low)
both_small high low h l = ap (λ d. both d (digit_of low)) (is_small high h) ∙ ap (both (Some high)) (is_small low l)

pub pair_some : (high low : ℕ) → IsBounded high → IsBounded low → high * 16 + low ≤ 255 → both (digit_of high) (digit_of low) ≡ Some (high * 16 + low)
pair_some high low (inl h) (inl l) small = both_small high low h l
pair_some high low (inl h) (inr l) small = absurd (omega (arith, h, l, small))
pair_some high low (inr h) l small = absurd (omega (arith, h, small))

pub pair_none : (high low : ℕ) → IsBounded high → IsBounded low → 255 < high * 16 + low → both (digit_of high) (digit_of low) ≡ None
pair_none high low (inl h) (inl l) large = absurd (omega (arith, h, l, large))
pair_none high low (inl h) (inr l) large = ap (λ d. both d (digit_of low)) (is_small high h) ∙ ap (λ v. both (Some high) (digit_of v)) l
pair_none high low (inr h) l large = ap (λ v. both (digit_of v) (digit_of low)) h
