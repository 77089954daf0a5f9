-- What is known of conflict names: where the stem ends, how long they are, and that they are names.
use Rattle.std.proofs.Common.{◌≡◌, ◌≢◌, ◌+◌, ◌-◌, ◌/◌, ◌%◌, ◌^◌, ◌<◌, ◌≤◌, ℕ, zero, suc, ℤ, pos, negsuc, Bool, true, false, cond, not, eqb, ltb, List, [], ◌∷◌, ◌++◌, ◌&&◌, ◌⊎◌, inl, inr, ⊎_elim, All, length, get_or, take, drop, reverse, refl, sym, ap, subst, ◌∙◌, arith, length-append, length-drop}
use Rattle.std.specs.Str.{IsCharBoundary, IsUtf8}
use Rattle.std.specs.Str.Parse.{AllDigits}
use Rattle.std.specs.Char.{digit_char}
use Rattle.std.specs.Fmt.{decimal, signed_decimal}
use Rattle.std.specs.List.{onto_first, list_all}
use Rattle.std.proofs.lemmas.Bool.{not-true, not-false, eqb-true, eqb-false, ne_eqb}
use Rattle.std.proofs.lemmas.Bool.Decides.{nat_tests}
use Rattle.std.proofs.lemmas.Fmt.{decimal_digit, decimal_step, decimal_nonempty, length-decimal-le, decimal_is_IsNumeral}
use Rattle.std.specs.Prelude.{codes}
use lib.Signed.{mag}
use Rattle.std.proofs.lemmas.List.{append_assoc, take-append-drop, get_or-reverse, get_or-drop, length-reverse}
use Rattle.std.proofs.lemmas.List.Elements.{All-nil, All-cons, All-head, All-tail, All-append, All-take, All-drop, All-weaker, All-from_get_or}
use Rattle.std.proofs.lemmas.List.Splits.{slice_split_none}
use Rattle.std.proofs.lemmas.List.Sums.{prefix_len_passes, prefix_len_stops, suffix_len-le-length, AllPass-from_list_all}
use Rattle.std.proofs.lemmas.Str.{IsCharBoundary-end, IsCharBoundary-before_ascii}
use Rattle.std.proofs.lemmas.Str.Parse.{digit_from_value}
use Rattle.bep_record.specs.Name.{IsName, IsPart, parts_of, slash, max_name_len}
use Rattle.bep_record.specs.Conflict.{dot, len_after_last, stem_len, hex_digits, conflict_mark, conflict_name_of}

-- ---- digits

pub hex_digits_none : (n : ℕ) → hex_digits 0 n ≡ []
unfolding hex_digits
hex_digits_none n = refl

pub hex_digits_more : (count n : ℕ) → 0 < count → hex_digits count n ≡ hex_digits (count - 1) (n / 16) ++ digit_char (n % 16) ∷ []
unfolding hex_digits
hex_digits_more zero n h = absurd (omega arith)
hex_digits_more (suc count) n h = let e : suc count - 1 ≡ count = omega arith in rw e

pub length_hex_digits : (count n : ℕ) → length (hex_digits count n) ≡ count
unfolding hex_digits
length_hex_digits zero n = refl
length_hex_digits (suc count) n = omega (arith, length-append (hex_digits count (n / 16)) (digit_char (n % 16) ∷ []), length_hex_digits count (n / 16))

pub length_decimal_digit : (n : ℕ) → n < 10 → length (decimal n) ≡ 1
length_decimal_digit n h = ap length (decimal_digit n h)

pub length_decimal_step : (n : ℕ) → 10 ≤ n → n < 2 ^ 64 → length (decimal n) ≡ length (decimal (n / 10)) + 1
length_decimal_step n h small = ap length (decimal_step n h small) ∙ omega (arith, length-append (decimal (n / 10)) ((48 + n % 10) ∷ []))

pub length_decimal_bounds : (n : ℕ) → n < 2 ^ 64 → (1 ≤ length (decimal n)) × (length (decimal n) ≤ 20)
length_decimal_bounds n small = (decimal_nonempty n small, length-decimal-le 20 n (omega arith) (omega arith) small)

-- ---- where the stem ends

-- the byte before those that follow the last such byte
at_last : (byte : ℕ) (bytes : List ℕ) → len_after_last byte bytes < length bytes → get_or bytes (length bytes - 1 - len_after_last byte bytes) 0 ≡ byte
at_last byte bytes h =
    let back : List ℕ = reverse bytes in
    let within : len_after_last byte bytes < length back = omega (arith, length-reverse bytes) in
    let stops = prefix_len_stops (λ b. not (eqb b byte)) back 0 within in
    sym (get_or-reverse bytes (len_after_last byte bytes) 0 h) ∙ eqb-true _ byte (not-false _ stops)

-- none of those is such a byte
after_last : (byte : ℕ) (bytes : List ℕ) (k : ℕ) → k < length bytes → length bytes ≤ k + len_after_last byte bytes → get_or bytes k 0 ≢ byte
after_last byte bytes k l h =
    let at : ℕ = length bytes - 1 - k in
    let passes = prefix_len_passes (λ b. not (eqb b byte)) (reverse bytes) at 0 (omega arith) in
    let here : length bytes - 1 - at ≡ k = omega arith in
    let read : get_or (reverse bytes) at 0 ≡ get_or bytes k 0 = get_or-reverse bytes at 0 (omega arith) ∙ ap (λ i. get_or bytes i 0) here in
    eqb-false _ byte (ap (λ b. eqb b byte) (sym read) ∙ not-true _ passes)

-- what is known of an extension's length, by whether there is one
cases_of_extension : (name : List ℕ) (r : Bool) → ltb (len_after_last dot name + 1) (len_after_last slash name) ≡ r → let n = cond r (len_after_last dot name + 1) 0 in ((n ≡ 0) ⊎ ((n ≡ len_after_last dot name + 1) × (n < len_after_last slash name)))
cases_of_extension name true e = inr (refl, grind (arith, nat_tests))
cases_of_extension name false e = inl refl

cases_of_stem : (name : List ℕ) → (stem_len name ≡ length name) ⊎ ((stem_len name + len_after_last dot name + 1 ≡ length name) × (len_after_last dot name + 1 < len_after_last slash name))
cases_of_stem name =
    let whole : len_after_last slash name ≤ length name = suffix_len-le-length (λ b. not (eqb b slash)) name in
    ⊎_elim (λ none. inl (omega arith)) (λ some. inr (omega arith, omega arith)) (cases_of_extension name _ refl)

-- a name may be cut where its extension begins
pub IsCharBoundary-stem : (name : List ℕ) → IsCharBoundary name (stem_len name)
IsCharBoundary-stem name = ⊎_elim
    (λ none. rw none (IsCharBoundary-end name))
    (λ some.
    let at : stem_len name ≡ length name - 1 - len_after_last dot name = omega (arith, some.0) in
    let is_dot : get_or name (stem_len name) 0 ≡ dot = ap (λ i. get_or name i 0) at ∙ at_last dot name (omega (arith, some.0)) in
    IsCharBoundary-before_ascii name (stem_len name) (omega (arith, some.0)) (omega arith))
    (cases_of_stem name)

-- ---- bytes that stand inside a part

abbrev is_inner : ℕ → Bool
is_inner b = not (eqb b 0) && not (eqb b slash)

abbrev IsInner : ℕ → Type 0
IsInner b = (b ≢ 0) × (b ≢ slash)

above_slash : (b : ℕ) → slash < b → IsInner b
above_slash b h = (omega arith, omega arith)

inner_hex : (count n : ℕ) → All IsInner (hex_digits count n)
unfolding hex_digits
inner_hex zero n = All-nil IsInner
inner_hex (suc count) n = All-append IsInner (hex_digits count (n / 16)) (digit_char (n % 16) ∷ []) (inner_hex count (n / 16))
    (All-cons IsInner (digit_char (n % 16)) [] (above_slash _ (grind (arith, nat_tests))) (All-nil IsInner))

inner_digits : (ds : List ℕ) → AllDigits 10 ds → All IsInner ds
inner_digits [] d = All-nil IsInner
inner_digits (c ∷ cs) d = let is = digit_from_value c d.0 in All-cons IsInner c cs (above_slash c (omega arith)) (inner_digits cs d.1)

inner_signed : (z : ℤ) → mag z < 2 ^ 63 → All IsInner (signed_decimal z)
inner_signed (pos n) h = inner_digits (decimal n) (decimal_is_IsNumeral n (omega arith)).0.1
inner_signed (negsuc n) h = All-cons IsInner 45 (decimal (suc n)) (omega arith, omega arith) (inner_digits (decimal (suc n)) (decimal_is_IsNumeral (suc n) (omega arith)).0.1)

inner_from_test : (bs : List ℕ) → list_all is_inner bs ≡ true → All IsInner bs
inner_from_test bs e = All-weaker (λ b. is_inner b ≡ true) IsInner (λ b h. grind (arith, nat_tests)) bs (AllPass-from_list_all is_inner bs e)

inner_mark : (z : ℤ) (n : ℕ) → mag z < 2 ^ 63 → All IsInner (conflict_mark z n)
inner_mark z n h =
    All-append IsInner (codes ".sync-conflict-" ++ signed_decimal z ++ codes "-") (hex_digits 16 n)
    (All-append IsInner (codes ".sync-conflict-" ++ signed_decimal z) (codes "-")
    (All-append IsInner (codes ".sync-conflict-") (signed_decimal z) (inner_from_test (codes ".sync-conflict-") refl) (inner_signed z h))
    (inner_from_test (codes "-") refl))
    (inner_hex 16 n)

-- an extension is inside one part
slashless_extension : (name : List ℕ) → All (λ b. b ≢ slash) (drop (stem_len name) name)
slashless_extension name = All-from_get_or (λ b. b ≢ slash) (drop (stem_len name) name) 0 (λ k l.
    let inside : stem_len name + k < length name = omega (arith, length-drop (stem_len name) name) in
    let late : length name ≤ (stem_len name + k) + len_after_last slash name = ⊎_elim (λ none. absurd (omega arith)) (λ some. omega arith) (cases_of_stem name) in
    rw (get_or-drop (stem_len name) name k 0) (after_last slash name (stem_len name + k) inside late))

-- ---- the length of a conflict name

pub length_mark : (z : ℤ) (n : ℕ) → length (conflict_mark z n) ≡ length (signed_decimal z) + 32
length_mark z n = simp length-append (omega (arith, length_hex_digits 16 n))

pub length_conflict_name : (name : List ℕ) (z : ℤ) (n : ℕ) → length (conflict_name_of name z n) ≡ length name + length (signed_decimal z) + 32
length_conflict_name name z n =
    let k : ℕ = stem_len name in
    omega (arith, length-append (take k name ++ conflict_mark z n) (drop k name), length-append (take k name) (conflict_mark z n), length-append (take k name) (drop k name), ap length (take-append-drop k name), length_mark z n)

-- ---- its parts

long_part : (part : List ℕ) → 3 ≤ length part → IsPart part
long_part part h = record {
  not_empty = λ e. omega (arith, ap length e);
  not_here = λ e. omega (arith, ap length e);
  not_above = λ e. omega (arith, ap length e);
}

-- the parts, with u put before the first
abbrev onto : List ℕ → List (List ℕ) → List (List ℕ)
onto u [] = u ∷ []
onto u (part ∷ parts) = (u ++ part) ∷ parts

onto_step : (u : List ℕ) (x : ℕ) (parts : List (List ℕ)) → onto u (onto_first x parts) ≡ onto (u ++ x ∷ []) parts
onto_step u x [] = refl
onto_step u x (part ∷ parts) = ap (λ p. p ∷ parts) (sym (append_assoc u (x ∷ []) part))

onto_none_cases : (b : Bool) (x : ℕ) (parts : List (List ℕ)) → onto [] (cond b ([] ∷ parts) (onto_first x parts)) ≡ cond b ([] ∷ parts) (onto_first x parts)
onto_none_cases true x parts = refl
onto_none_cases false x [] = refl
onto_none_cases false x (part ∷ parts) = refl

onto_none : (bytes : List ℕ) → onto [] (parts_of bytes) ≡ parts_of bytes
onto_none [] = refl
onto_none (x ∷ xs) = onto_none_cases (eqb x slash) x (parts_of xs)

-- one more byte before two lists of parts, of which the second are good where the first are
more_parts : (b : Bool) (u : List ℕ) (x : ℕ) (ps qs : List (List ℕ)) → onto [] ps ≡ ps → onto [] qs ≡ qs → ((v : List ℕ) → All IsPart (onto v ps) → All IsPart (onto v qs))
    → All IsPart (onto u (cond b ([] ∷ ps) (onto_first x ps))) → All IsPart (onto u (cond b ([] ∷ qs) (onto_first x qs)))
more_parts true u x ps qs p q h a =
    All-cons IsPart (u ++ []) qs (All-head IsPart (u ++ []) ps a) (subst (All IsPart) q (h [] (subst (All IsPart) (sym p) (All-tail IsPart (u ++ []) ps a))))
more_parts false u x ps qs p q h a =
    subst (All IsPart) (sym (onto_step u x qs)) (h (u ++ x ∷ []) (subst (All IsPart) (onto_step u x ps) a))

-- where the last part is good, another end of it that is long enough makes it good too
parts_with_end : (xs zs ys : List ℕ) → All (λ b. b ≢ slash) ys → 3 ≤ length ys → (u : List ℕ) → All IsPart (onto u (parts_of (xs ++ zs))) → All IsPart (onto u (parts_of (xs ++ ys)))
parts_with_end [] zs ys slashless long u a =
    let alone : parts_of ys ≡ ys ∷ [] = slice_split_none (λ b. eqb b slash) ys (All-weaker (λ b. b ≢ slash) (λ b. eqb b slash ≡ false) (λ b. ne_eqb b slash) ys slashless) in
    subst (λ parts. All IsPart (onto u parts)) (sym alone) (All-cons IsPart (u ++ ys) [] (long_part (u ++ ys) (omega (arith, length-append u ys))) (All-nil IsPart))
parts_with_end (x ∷ xs) zs ys slashless long u a =
    more_parts (eqb x slash) u x (parts_of (xs ++ zs)) (parts_of (xs ++ ys)) (onto_none (xs ++ zs)) (onto_none (xs ++ ys)) (parts_with_end xs zs ys slashless long) a

-- ---- a conflict name is a name, if it isn't too long

pub IsName-conflict_name : (name : List ℕ) (z : ℤ) (n : ℕ) → IsName name → mag z < 2 ^ 63 → length (conflict_name_of name z n) ≤ max_name_len → IsUtf8 (conflict_name_of name z n) → IsName (conflict_name_of name z n)
IsName-conflict_name name z n named small fits utf8 =
    let k : ℕ = stem_len name in
    let end : List ℕ = conflict_mark z n ++ drop k name in
    let inner = inner_mark z n small in
    let slashless : All (λ b. b ≢ slash) end = All-append (λ b. b ≢ slash) (conflict_mark z n) (drop k name) (All-weaker IsInner (λ b. b ≢ slash) (λ b h. h.1) (conflict_mark z n) inner) (slashless_extension name) in
    let long : 3 ≤ length end = omega (arith, length-append (conflict_mark z n) (drop k name), length_mark z n) in
    let joined : conflict_name_of name z n ≡ take k name ++ end = append_assoc (take k name) (conflict_mark z n) (drop k name) in
    let before : All IsPart (onto [] (parts_of (take k name ++ drop k name))) = subst (All IsPart) (sym (onto_none (take k name ++ drop k name))) (subst (λ bytes. All IsPart (parts_of bytes)) (sym (take-append-drop k name)) named.parts) in
    let after : All IsPart (parts_of (take k name ++ end)) = subst (All IsPart) (onto_none (take k name ++ end)) (parts_with_end (take k name) (drop k name) end slashless long [] before) in
    record {
      not_empty = omega (arith, length_conflict_name name z n);
      not_long = fits;
      text = record {
        utf8 = utf8;
        no_nul = All-append (λ b. b ≢ 0) (take k name ++ conflict_mark z n) (drop k name)
            (All-append (λ b. b ≢ 0) (take k name) (conflict_mark z n) (All-take (λ b. b ≢ 0) k name named.text.no_nul) (All-weaker IsInner (λ b. b ≢ 0) (λ b h. h.0) (conflict_mark z n) inner))
            (All-drop (λ b. b ≢ 0) k name named.text.no_nul);
      };
      parts = subst (λ bytes. All IsPart (parts_of bytes)) (sym joined) after;
    }
