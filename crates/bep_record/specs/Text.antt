-- What names and the targets of symlinks have in common (this project's profile).
use Rattle.std.specs.Prelude.{◌≢◌, ℕ, List, All}
use Rattle.std.specs.Str.{IsUtf8}

-- UTF-8 without a NUL byte
pub record IsPlainText (bytes : List ℕ) : Type 0 where
  pub utf8 : IsUtf8 bytes
  pub no_nul : All (λ b. b ≢ 0) bytes
