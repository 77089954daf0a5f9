-- What a line is made of, how names of files are printed (this project's profile), and what it is to append a line.
use Rattle.std.specs.Prelude.{◌≡◌, ◌==◌, ◌||◌, ◌/◌, ◌%◌, ◌++◌, ℕ, Bool, List, [], ◌∷◌, Result, MatchResult, nat_lt, if◌then◌else◌}
use Rattle.std.specs.Char.{digit_char}
use Rattle.std.specs.Fmt.{decimal}
use Rattle.std.specs.List.{flat_map}
use Rattle.bep_lines.specs.declared.text.Piece.{Piece}
use Rattle.bep_lines.specs.declared.text.Piece.TheVariants.{Text, Number, Name}

-- a byte that isn't printed as it is: a control byte, a space, a backslash, or DEL
abbrev pub is_escaped : ℕ → Bool
is_escaped byte = nat_lt byte 0x21 || (byte == 0x5c || byte == 0x7f)

-- `\x` and the byte's two hexadecimal digits, in lower case
abbrev pub escape_of : ℕ → List ℕ
escape_of byte = 0x5c ∷ 0x78 ∷ digit_char (byte / 16) ∷ digit_char (byte % 16) ∷ []

-- a byte as it is printed
abbrev pub printed_byte : ℕ → List ℕ
printed_byte byte = if is_escaped byte then escape_of byte else byte ∷ []

-- a name as it is printed
abbrev pub printed : List ℕ → List ℕ
printed name = flat_map printed_byte name

-- the text of a piece of a line
abbrev pub piece_text : Piece → List ℕ
piece_text (Text part) = part.now
piece_text (Number number) = decimal number
piece_text (Name name) = printed name.now

-- the text of these pieces
abbrev pub pieces_text : List Piece → List ℕ
pieces_text pieces = flat_map piece_text pieces

-- the bytes have these at their end, or are as they were where there is no answer
abbrev pub AppendsWhole : {T E : Type 0} → Result T E → List ℕ → List ℕ → List ℕ → Type 0
AppendsWhole result old new more = MatchResult result (λ _. new ≡ old ++ more) (λ _. new ≡ old)
