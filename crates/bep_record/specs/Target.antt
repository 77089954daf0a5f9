-- Which bytes are the target of a symlink (BEP v1, 'FileInfo', field 'symlink_target'; the limit is this project's profile).
use Rattle.std.specs.Prelude.{◌≤◌, ℕ, List, length}
use Rattle.bep_record.specs.Text.{IsPlainText}
use Rattle.bep_record.specs.declared.limits.TheConstants.{MAX_TARGET_LEN}

-- the most bytes that a target has
abbrev pub max_target_len : ℕ
max_target_len = MAX_TARGET_LEN

-- a target: at most 1024 bytes of UTF-8 without NUL; the empty one stands for none
pub record IsTarget (bytes : List ℕ) : Type 0 where
  pub not_long : length bytes ≤ max_target_len
  pub text : IsPlainText bytes
