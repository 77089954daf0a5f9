-- The number that a text says.
use Rattle.std.proofs.Common.{◌≡◌, ◌^◌, ℕ, Bool, true, false, List, [], ◌∷◌, length, Result, Ok, Err, refl, nat_lt, lt-ltb, ltb-true, if◌then◌else◌}
use Rattle.std.specs.Char.{digit_value}
use Rattle.std.specs.List.{list_all}
use Rattle.std.specs.Result.{result_unwrap_or}
use Rattle.std.specs.Str.Parse.{AllDigits, ParsesUnsigned, digits_value, without_leading_plus}
use Rattle.clap.proofs.WalkLemmas.{both}
use Rattle.clap.specs.Words.{Text}
use Rattle.bep_words.specs.Turns.{is_number}

all_pass : (digits : List ℕ) → AllDigits 10 digits → list_all (λ digit. nat_lt (digit_value digit) 10) digits ≡ true
all_pass [] all = refl
all_pass (digit ∷ more) all = rw (lt-ltb (digit_value digit) 10 all.0) (all_pass more all.1)

all_from : (digits : List ℕ) → list_all (λ digit. nat_lt (digit_value digit) 10) digits ≡ true → AllDigits 10 digits
all_from [] pass = tt
all_from (digit ∷ more) pass =
    let parts = both _ _ pass in
    (ltb-true _ _ parts.0, all_from more parts.1)

abbrev pub said : Text → ℕ
said text = let digits = without_leading_plus text in if is_number digits then digits_value 10 digits else 0

-- what is read of the text, and 0 where nothing is, is what it says
pub number_read : {E : Type 0} (text : Text) (read : Result ℕ E) → ParsesUnsigned 32 10 text read → result_unwrap_or read 0 ≡ said text
number_read text (Ok number) parses =
    let digits = without_leading_plus text in
    rw (lt-ltb 0 (length digits) parses.0.0.0, all_pass digits parses.0.0.1, lt-ltb (digits_value 10 digits) (2 ^ 32) parses.0.1) parses.1
number_read text (Err error) parses = go (is_number (without_leading_plus text)) refl
  where
    go : (is : Bool) → is_number (without_leading_plus text) ≡ is → 0 ≡ said text
    go false same = rw same refl
    go true same =
        let outer = both _ _ same in
        let inner = both _ _ outer.0 in
        absurd (parses ((ltb-true _ _ inner.0, all_from (without_leading_plus text) inner.1), ltb-true _ _ outer.1))
