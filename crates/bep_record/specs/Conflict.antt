-- The name under which a file that lost against a concurrent one is kept (this project's profile).
use Rattle.std.specs.Prelude.{◌==◌, ◌+◌, ◌-◌, ◌/◌, ◌%◌, ℕ, zero, suc, ℤ, List, [], ◌∷◌, ◌++◌, length, take, drop, not, nat_lt, codes, if◌then◌else◌}
use Rattle.std.specs.List.{suffix_len}
use Rattle.std.specs.Char.{digit_char}
use Rattle.std.specs.Fmt.{signed_decimal}
use Rattle.bep_record.specs.Name.{slash}

-- the byte `.`, at which an extension begins
abbrev pub dot : ℕ
dot = 46

-- how many bytes follow the last one with this value; all of them, if there is none
abbrev pub len_after_last : ℕ → List ℕ → ℕ
len_after_last byte bytes = suffix_len (λ b. not (b == byte)) bytes

-- how long a name's extension is: it begins at the last dot of the name's last part; that part may have no dot, or one as
-- its first character alone, and then there is no extension
abbrev pub extension_len : List ℕ → ℕ
extension_len name = let from_dot = len_after_last dot name + 1 in if nat_lt from_dot (len_after_last slash name) then from_dot else 0

-- how long the stem is: the stem is what stands before the extension
abbrev pub stem_len : List ℕ → ℕ
stem_len name = length name - extension_len name

-- the last `count` hexadecimal digits of a number, in lower case
unfoldable pub hex_digits : ℕ → ℕ → List ℕ
hex_digits zero n = []
hex_digits (suc count) n = hex_digits count (n / 16) ++ digit_char (n % 16) ∷ []

-- what stands between stem and extension: the losing record's time in seconds, and the device that changed it last
abbrev pub conflict_mark : ℤ → ℕ → List ℕ
conflict_mark modified_s modified_by =
    codes ".sync-conflict-" ++ signed_decimal modified_s ++ codes "-" ++ hex_digits 16 modified_by

-- the conflict name of a losing record of this name, time and device
abbrev pub conflict_name_of : List ℕ → ℤ → ℕ → List ℕ
conflict_name_of name modified_s modified_by =
    take (stem_len name) name ++ conflict_mark modified_s modified_by ++ drop (stem_len name) name
