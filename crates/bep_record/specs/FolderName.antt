-- Which bytes are the name of a folder (BEP v1, 'Folder', field 'id'; the limits are this project's profile).
use Rattle.std.specs.Prelude.{◌≡◌, ◌⊎◌, ℕ, ◌≤◌, List, All, length}
use Rattle.bep_record.specs.declared.limits.TheConstants.{MAX_FOLDER_NAME_LEN}

-- an ASCII digit, a letter, `-` or `_`
abbrev pub IsFolderByte : ℕ → Type 0
IsFolderByte b = ((48 ≤ b) × (b ≤ 57)) ⊎ (((65 ≤ b) × (b ≤ 90)) ⊎ (((97 ≤ b) × (b ≤ 122)) ⊎ ((b ≡ 45) ⊎ (b ≡ 95))))

-- the name of a folder: 1 to 64 such bytes
pub record IsFolderName (bytes : List ℕ) : Type 0 where
  pub not_empty : 1 ≤ length bytes
  pub not_long : length bytes ≤ MAX_FOLDER_NAME_LEN
  pub plain : All IsFolderByte bytes
