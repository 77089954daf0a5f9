-- The lines of a stream, as they are read (this project's profile).
use Rattle.std.specs.Prelude.{◌≡◌, ◌==◌, ◌++◌, ◌<◌, ◌≤◌, ℕ, ⊤, List, Option, None, Some, length}
use Rattle.std.specs.List.{position}
use Rattle.std.specs.Io.KnownBytes.{Consumes, IsAtEnd}
use Rattle.bep_rows_answer.specs.declared.input.Next.{Next}
use Rattle.bep_rows_answer.specs.declared.input.Next.TheVariants.{Line, Last, TooLong}

-- where the first line ends, if it does
abbrev pub newline_at : List ℕ → Option ℕ
newline_at bytes = position (λ byte. byte == 10) bytes

-- what is pending has grown by what the reader gave
pub record IsGrown (unread left : Option (List ℕ)) (old new : List ℕ) : Type 0 where
  pub more : List ℕ
  pub grown : new ≡ old ++ more
  pub taken : Consumes unread left more

-- what comes next, of what is pending where this is left unread
abbrev pub IsFound : Option (List ℕ) → List ℕ → Next → Type 0
IsFound left pending (Line len) = (newline_at pending ≡ Some len) × (len ≤ 1048576)
IsFound left pending Last = (newline_at pending ≡ None) × IsAtEnd left × (length pending ≤ 1048576)
IsFound left pending TooLong = (1048576 < length pending) × ((len : ℕ) → newline_at pending ≡ Some len → 1048576 < len)
