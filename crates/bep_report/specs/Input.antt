-- How much of its input the program reads (this project's profile).
use Rattle.std.specs.Prelude.{◌≡◌, ◌<◌, ◌≤◌, ℕ, List, Option, IfSome, length, take}
use Rattle.std.specs.Io.KnownBytes.{Consumes, IsAtEnd}

-- the most bytes that are read: one more than the greatest document has, so that a longer one is noticed
unfoldable pub most_read : ℕ
most_read = 67108865

-- the bytes are what the reader had, as far as so many of them, and are gone from it
pub record IsReadUpTo (most : ℕ) (old new : Option (List ℕ)) (bytes : List ℕ) : Type 0 where
  pub first : IfSome old (λ all. bytes ≡ take most all)
  pub taken : Consumes old new bytes
  pub bound : length bytes ≤ most
  pub whole : length bytes < most → IsAtEnd new

-- the bytes are the document that was read
abbrev pub IsRead : Option (List ℕ) → Option (List ℕ) → List ℕ → Type 0
IsRead old new bytes = IsReadUpTo most_read old new bytes
