-- The lines on a run are texts.
use Rattle.std.proofs.Common.{◌<◌, ◌^◌, ◌++◌, ℕ, List, [], codes, IsUtf8, OnOk, Result, Ok, Err, refl, subst, sym}
use Rattle.std.specs.Fmt.{decimal}
use Rattle.std.proofs.lemmas.Fmt.{IsAscii-decimal}
use Rattle.std.proofs.lemmas.Str.{IsUtf8-append, IsUtf8-from_ascii, IsUtf8-nil}
use Rattle.bep_lines.specs.Lines.{newline}
use Rattle.bep_lines.specs.Text.{AppendsWhole}
use Rattle.bep_fit.specs.declared.object.Object.{Object}
use Rattle.bep_fit.specs.declared.object.Object.TheVariants.{Device, Link}
use Rattle.bep_live.specs.Lines.{object_line, told_line}

line_text : (words : List ℕ) (number : ℕ) → number < 2 ^ 64 → IsUtf8 words → IsUtf8 (told_line words number)
unfolding lib.Utf8.encode
line_text words number few is =
    IsUtf8-append words _ is
    (IsUtf8-append (decimal number) _ (IsUtf8-from_ascii (decimal number) (IsAscii-decimal number few))
    (IsUtf8-append newline [] (newline, (refl, refl)) IsUtf8-nil))

-- a text with another one behind it is one
pub text_with : {T E : Type 0} (result : Result T E) (old new more : List ℕ) → IsUtf8 more → AppendsWhole result old new more → OnOk result (IsUtf8 old → IsUtf8 new)
text_with (Ok done) old new more is made = λ text. subst IsUtf8 (sym made) (IsUtf8-append old more text is)
text_with (Err error) old new more is made = tt

-- a text with such a line behind it is one
pub text_with_line : {T E : Type 0} (result : Result T E) (old new : List ℕ) (words : List ℕ) (number : ℕ) → number < 2 ^ 64 → IsUtf8 words
    → AppendsWhole result old new (told_line words number) → OnOk result (IsUtf8 old → IsUtf8 new)
text_with_line result old new words number few is = text_with result old new (told_line words number) (line_text words number few is)

-- the numbers of an object are those of 64 bits
abbrev pub IsOfWords : Object → Type 0
IsOfWords (Device device) = device < 2 ^ 64
IsOfWords (Link lower upper) = (lower < 2 ^ 64) × (upper < 2 ^ 64)

number_text : (number : ℕ) → number < 2 ^ 64 → IsUtf8 (decimal number)
number_text number few = IsUtf8-from_ascii (decimal number) (IsAscii-decimal number few)

newline_text : IsUtf8 (newline ++ [])
unfolding lib.Utf8.encode
newline_text = IsUtf8-append newline [] (newline, (refl, refl)) IsUtf8-nil

object_text : (words : List ℕ) (object : Object) → IsOfWords object → IsUtf8 words → IsUtf8 (object_line words object)
unfolding lib.Utf8.encode
object_text words (Device device) few is =
    IsUtf8-append words _ is (IsUtf8-append (codes "device ") _ (codes "device ", (refl, refl)) (IsUtf8-append (decimal device) _ (number_text device few) newline_text))
object_text words (Link lower upper) few is =
    IsUtf8-append words _ is (IsUtf8-append (codes "link ") _ (codes "link ", (refl, refl)) (IsUtf8-append (decimal lower) _ (number_text lower few.0)
    (IsUtf8-append (codes " ") _ (codes " ", (refl, refl)) (IsUtf8-append (decimal upper) _ (number_text upper few.1) newline_text))))

-- a text with such a line behind it is one
pub text_with_object : {T E : Type 0} (result : Result T E) (old new : List ℕ) (words : List ℕ) (object : Object) → IsOfWords object → IsUtf8 words
    → AppendsWhole result old new (object_line words object) → OnOk result (IsUtf8 old → IsUtf8 new)
text_with_object result old new words object few is = text_with result old new (object_line words object) (object_text words object few is)
