-- The line of a step that is refused is a text.
use Rattle.std.proofs.Common.{◌<◌, ◌^◌, ℕ, List, [], codes, IsUtf8, OnOk, Result, Ok, Err, refl, subst, sym}
use Rattle.std.specs.Fmt.{decimal}
use Rattle.std.proofs.lemmas.Fmt.{IsAscii-decimal}
use Rattle.std.proofs.lemmas.Str.{IsUtf8-append, IsUtf8-from_ascii, IsUtf8-nil}
use Rattle.bep_lines.specs.Lines.{newline, step_line}
use Rattle.bep_lines.specs.Text.{AppendsWhole}

number_text : (n : ℕ) → n < 2 ^ 64 → IsUtf8 (decimal n)
number_text n few = IsUtf8-from_ascii (decimal n) (IsAscii-decimal n few)

step_text : (place number : ℕ) (word : List ℕ) → place < 2 ^ 64 → number < 2 ^ 64 → IsUtf8 word → IsUtf8 (step_line place number word)
unfolding lib.Utf8.encode
step_text place number word few less is =
    IsUtf8-append (codes "step ") _ (codes "step ", (refl, refl))
    (IsUtf8-append (decimal place) _ (number_text place few)
    (IsUtf8-append (codes ": ") _ (codes ": ", (refl, refl))
    (IsUtf8-append (decimal number) _ (number_text number less)
    (IsUtf8-append (codes " ") _ (codes " ", (refl, refl))
    (IsUtf8-append word _ is (IsUtf8-append newline [] (newline, (refl, refl)) IsUtf8-nil))))))

-- a text with such a line behind it is one
pub text_with_step : {T E : Type 0} (result : Result T E) (old new : List ℕ) (place number : ℕ) (word : List ℕ) → place < 2 ^ 64 → number < 2 ^ 64 → IsUtf8 word
    → AppendsWhole result old new (step_line place number word) → OnOk result (IsUtf8 old → IsUtf8 new)
text_with_step (Ok done) old new place number word few less is made = λ text.
    subst IsUtf8 (sym made) (IsUtf8-append old (step_line place number word) text (step_text place number word few less is))
text_with_step (Err error) old new place number word few less is made = tt
