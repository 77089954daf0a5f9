-- Which bytes are the name of a file in a folder (BEP v1, 'FileInfo', field 'name'; the limits are this project's profile).
use Rattle.std.specs.Prelude.{◌≢◌, ◌==◌, ◌≤◌, ℕ, List, [], All, codes, length}
use Rattle.std.specs.List.{slice_split}
use Rattle.bep_record.specs.Text.{IsPlainText}
use Rattle.bep_record.specs.declared.limits.TheConstants.{MAX_NAME_LEN}

-- the most bytes that a name has
abbrev pub max_name_len : ℕ
max_name_len = MAX_NAME_LEN

-- the byte `/`, which divides a name into its parts
abbrev pub slash : ℕ
slash = 47

-- the parts of a name, as they stand between its slashes
abbrev pub parts_of : List ℕ → List (List ℕ)
parts_of bytes = slice_split (λ b. b == slash) bytes

-- a part isn't empty, and is neither this folder nor the one above it
pub record IsPart (part : List ℕ) : Type 0 where
  pub not_empty : part ≢ []
  pub not_here : part ≢ codes "."
  pub not_above : part ≢ codes ".."

-- a name: 1 to 1024 bytes of UTF-8 without NUL, each part of which is good
pub record IsName (bytes : List ℕ) : Type 0 where
  pub not_empty : 1 ≤ length bytes
  pub not_long : length bytes ≤ max_name_len
  pub text : IsPlainText bytes
  pub parts : All IsPart (parts_of bytes)
