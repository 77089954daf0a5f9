-- What stands before a space or a line's end can be told from what follows.
use Rattle.std.proofs.Common.{◌≡◌, ℕ, ◌<◌, ◌≤◌, ◌^◌, ◌/◌, ◌%◌, ◌+◌, Bool, true, false, List, [], ◌∷◌, ◌++◌, All, drop, get_or, nat_le, suc, refl, sym, ap, ◌∙◌, arith}
use Rattle.std.specs.Prelude.{⊤, if◌then◌else◌}
use Rattle.std.specs.Char.{digit_char, digit_value}
use Rattle.std.specs.Fmt.{decimal}
use Rattle.std.specs.List.{list_all}
use Rattle.std.proofs.lemmas.Bool.Decides.{nat_tests}
use Rattle.std.proofs.lemmas.Fmt.{decimal_by_steps}
use Rattle.std.proofs.lemmas.Str.{digit_value-digit_char}
use Rattle.bep_record.specs.FolderName.{IsFolderByte}
use Rattle.bep_lines.specs.Text.{escape_of, is_escaped, printed, printed_byte}

-- none of these bytes is a space, a line's end or another control byte
abbrev pub AreSeen : List ℕ → Type 0
AreSeen [] = ⊤
AreSeen (b ∷ bs) = (33 ≤ b) × AreSeen bs

seen-append : (xs ys : List ℕ) → AreSeen xs → AreSeen ys → AreSeen (xs ++ ys)
seen-append [] ys some more = more
seen-append (x ∷ xs) ys some more = (some.0, seen-append xs ys some.1 more)

-- ---- two texts of which each has a token, a byte that ends it, and more
pub token_ends : (xs ys : List ℕ) (b c : ℕ) (us vs : List ℕ) → AreSeen xs → AreSeen ys → b < 33 → c < 33 → xs ++ b ∷ us ≡ ys ++ c ∷ vs →
    (xs ≡ ys) × ((b ≡ c) × (us ≡ vs))
token_ends [] [] b c us vs one other low less e = (refl, (ap (λ l. get_or l 0 0) e, ap (drop 1) e))
token_ends [] (y ∷ ys) b c us vs one other low less e = absurd (omega (arith, other.0, ap (λ l. get_or l 0 0) e))
token_ends (x ∷ xs) [] b c us vs one other low less e = absurd (omega (arith, one.0, ap (λ l. get_or l 0 0) e))
token_ends (x ∷ xs) (y ∷ ys) b c us vs one other low less e =
    let more = token_ends xs ys b c us vs one.1 other.1 low less (ap (drop 1) e) in
    let first : x ≡ y = ap (λ l. get_or l 0 0) e in
    ((λ i. first i ∷ more.0 i), more.1)

-- ---- what is seen
pub seen_word : (word : List ℕ) → list_all (nat_le 33) word ≡ true → AreSeen word
seen_word [] all = tt
seen_word (b ∷ bs) all = grind (arith, nat_tests, seen_word bs)

pub seen_folder : (folder : List ℕ) → All IsFolderByte folder → AreSeen folder
seen_folder [] plain = tt
seen_folder (b ∷ bs) plain = (folder_byte b (plain 0 0 (omega arith)), seen_folder bs (λ i d below. plain (suc i) d (omega arith)))
  where
    folder_byte : (c : ℕ) → IsFolderByte c → 33 ≤ c
    folder_byte c is = omega arith

pub seen_decimal : (n : ℕ) → n < 2 ^ 64 → AreSeen (decimal n)
seen_decimal = decimal_by_steps (λ m ds. AreSeen ds) (λ m below. (omega arith, tt)) (λ m ds above had. seen-append ds ((48 + m % 10) ∷ []) had (omega arith, tt))

digit_is_seen : (d : ℕ) → 33 ≤ digit_char d
digit_is_seen d = grind (arith, nat_tests)

seen_if : (b : ℕ) (is : Bool) → is_escaped b ≡ is → AreSeen (if is then escape_of b else b ∷ [])
seen_if b true e = (omega arith, (omega arith, (digit_is_seen (b / 16), (digit_is_seen (b % 16), tt))))
seen_if b false e = (grind (arith, nat_tests), tt)

pub seen_printed : (name : List ℕ) → AreSeen (printed name)
seen_printed [] = tt
seen_printed (b ∷ bs) = seen-append (printed_byte b) (printed bs) (seen_if b (is_escaped b) refl) (seen_printed bs)

-- ---- a name as it is printed tells the name
escaped_small : (b : ℕ) → is_escaped b ≡ true → b < 256
escaped_small b e = grind (arith, nat_tests)

digits_tell : (d e : ℕ) → d < 16 → e < 16 → digit_char d ≡ digit_char e → d ≡ e
digits_tell d e low less same = sym (digit_value-digit_char d (omega arith)) ∙ ap digit_value same ∙ digit_value-digit_char e (omega arith)

escapes_tell : (b c : ℕ) (us vs : List ℕ) → b < 256 → c < 256 → escape_of b ++ us ≡ escape_of c ++ vs → (b ≡ c) × (us ≡ vs)
escapes_tell b c us vs low less e =
    let high = digits_tell (b / 16) (c / 16) (omega arith) (omega arith) (ap (λ l. get_or l 2 0) e) in
    let rest = digits_tell (b % 16) (c % 16) (omega arith) (omega arith) (ap (λ l. get_or l 3 0) e) in
    (omega arith, ap (drop 4) e)

byte_tells_if : (b c : ℕ) (is other : Bool) (us vs : List ℕ) → is_escaped b ≡ is → is_escaped c ≡ other →
    (if is then escape_of b else b ∷ []) ++ us ≡ (if other then escape_of c else c ∷ []) ++ vs → (b ≡ c) × (us ≡ vs)
byte_tells_if b c true true us vs p q e = escapes_tell b c us vs (escaped_small b p) (escaped_small c q) e
byte_tells_if b c false false us vs p q e = (ap (λ l. get_or l 0 0) e, ap (drop 1) e)
byte_tells_if b c true false us vs p q e = absurd (let is : 92 ≡ c = ap (λ l. get_or l 0 0) e in let yes : true ≡ false = ap is_escaped is ∙ q in cc)
byte_tells_if b c false true us vs p q e = absurd (let is : b ≡ 92 = ap (λ l. get_or l 0 0) e in let yes : false ≡ true = sym p ∙ ap is_escaped is in cc)

byte_tells : (b c : ℕ) (us vs : List ℕ) → printed_byte b ++ us ≡ printed_byte c ++ vs → (b ≡ c) × (us ≡ vs)
byte_tells b c us vs e = byte_tells_if b c (is_escaped b) (is_escaped c) us vs refl refl e

byte_is_some : (b : ℕ) (is : Bool) (us : List ℕ) → (if is then escape_of b else b ∷ []) ++ us ≡ [] → ⊥
byte_is_some b true us e = cc
byte_is_some b false us e = cc

pub printed_tells : (name other : List ℕ) → printed name ≡ printed other → name ≡ other
printed_tells [] [] e = refl
printed_tells [] (c ∷ cs) e = absurd (byte_is_some c (is_escaped c) (printed cs) (sym e))
printed_tells (b ∷ bs) [] e = absurd (byte_is_some b (is_escaped b) (printed bs) e)
printed_tells (b ∷ bs) (c ∷ cs) e =
    let first = byte_tells b c (printed bs) (printed cs) e in
    let more = printed_tells bs cs first.1 in
    λ i. first.0 i ∷ more i
