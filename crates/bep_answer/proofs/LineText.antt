-- The line of a name without a winner is a text.
use Rattle.std.proofs.Common.{◌≡◌, ℕ, zero, suc, ◌<◌, ◌≤◌, Bool, true, ◌&&◌, nat_lt, List, [], ◌∷◌, ◌++◌, length, get_or, codes, None, IsUtf8, OnOk, Result, Ok, Err, inl, inr, refl, sym, ap₂, subst, arith, append-nil, ltb-true}
use Rattle.std.proofs.lemmas.Bool.{and_parts, cases_lt, cases_eq}
use Rattle.std.proofs.lemmas.Grind.{flat_map-append}
use Rattle.std.proofs.lemmas.Str.{IsUtf8-append, IsUtf8-nil, IsUtf8-encode, encode_ascii, inside_one}
use lib.Utf8.{scalar, scalars, encode, encodes, low_scalar}
use Rattle.bep_lines.specs.Lines.{newline, verdict_line}
use Rattle.bep_lines.specs.Text.{AppendsWhole, printed, printed_byte}
use Rattle.bep_model.specs.declared.reason.Reason.TheVariants.{NotWinner}
use Rattle.bep_model.specs.Tables.{Folder, FileName}
use Rattle.bep_model.specs.Verdict.{Not}

-- ---- ASCII

abbrev are_ascii : List ℕ → Bool
are_ascii [] = true
are_ascii (x ∷ xs) = nat_lt x 128 && are_ascii xs

ascii_text : (xs : List ℕ) → are_ascii xs ≡ true → IsUtf8 xs
ascii_text [] e = IsUtf8-nil
ascii_text (x ∷ xs) e =
    let p = and_parts _ _ e in
    let small : x < 128 = ltb-true _ _ p.0 in
    IsUtf8-append (x ∷ []) xs (subst IsUtf8 (encode_ascii x small) (IsUtf8-encode x (low_scalar x (omega arith)))) (ascii_text xs p.1)

-- ---- names as they are printed

-- the bytes below n are printed in ASCII
abbrev printed_below : ℕ → Bool
printed_below zero = true
printed_below (suc n) = are_ascii (printed_byte n) && printed_below n

is_below : (n : ℕ) → printed_below n ≡ true → (x : ℕ) → x < n → are_ascii (printed_byte x) ≡ true
is_below zero e x h = absurd (omega arith)
is_below (suc n) e x h =
    let p = and_parts _ _ e in
    elim (cases_eq x n) [ inl same ↦ rw same p.0 | inr other ↦ is_below n p.1 x (omega arith) ]

all_below : printed_below 128 ≡ true
all_below = refl

-- and those from 128 on as they are
high_byte : (x : ℕ) → 128 ≤ x → printed_byte x ≡ x ∷ []
high_byte x high = grind arith

high_bytes : (xs : List ℕ) → ((k : ℕ) → k < length xs → 128 ≤ get_or xs k 0) → printed xs ≡ xs
high_bytes [] h = refl
high_bytes (x ∷ xs) h =
    ap₂ (λ (a b : List ℕ). a ++ b) (high_byte x (h 0 (omega arith))) (high_bytes xs (λ k below. h (suc k) (omega arith)))

one_char : (c : ℕ) → scalar c ≡ true → IsUtf8 (printed (encode c))
one_char c ok = elim (cases_lt c 128) [
  | inl small ↦ rw (encode_ascii c small, append-nil) (ascii_text _ (is_below 128 all_below c small))
  | inr big ↦
      let high : (k : ℕ) → k < length (encode c) → 128 ≤ get_or (encode c) k 0 = λ k below. elim (cases_lt (get_or (encode c) k 0) 128) [
        | inl low ↦ absurd (omega (arith, inside_one c [] (encode c) k (sym (append-nil _)) below low))
        | inr h ↦ h
      ] in
      subst IsUtf8 (sym (high_bytes (encode c) high)) (IsUtf8-encode c ok)
]

all_chars : (cs : List ℕ) → scalars cs ≡ true → IsUtf8 (printed (encodes cs))
all_chars [] e = IsUtf8-nil
all_chars (c ∷ cs) e =
    let p = and_parts _ _ e in
    subst IsUtf8 (sym (flat_map-append printed_byte (encode c) (encodes cs))) (IsUtf8-append _ _ (one_char c p.0) (all_chars cs p.1))

printed_text : (name : List ℕ) → IsUtf8 name → IsUtf8 (printed name)
printed_text name is = subst (λ (bytes : List ℕ). IsUtf8 (printed bytes)) is.1.1 (all_chars is.0 is.1.0)

-- ---- lines

line_text : (folder : Folder) (name : FileName) → IsUtf8 folder → IsUtf8 name → IsUtf8 (verdict_line (Not NotWinner folder name None))
line_text folder name of is =
    IsUtf8-append (codes "not settled: ") _ (ascii_text _ refl)
    (IsUtf8-append (codes "NotWinner") _ (ascii_text _ refl)
    (IsUtf8-append (codes " ") _ (ascii_text _ refl)
    (IsUtf8-append folder _ of
    (IsUtf8-append (codes " ") _ (ascii_text _ refl)
    (IsUtf8-append (printed name) _ (printed_text name is)
    (ascii_text newline refl))))))

-- a text with such a line behind it is one
pub text_with_line : {T E : Type 0} (result : Result T E) (old new : List ℕ) (folder : Folder) (name : FileName) → IsUtf8 folder → IsUtf8 name
    → AppendsWhole result old new (verdict_line (Not NotWinner folder name None)) → OnOk result (IsUtf8 old → IsUtf8 new)
text_with_line (Ok done) old new folder name of is made = λ text. subst IsUtf8 (sym made) (IsUtf8-append old _ text (line_text folder name of is))
text_with_line (Err error) old new folder name of is made = tt
