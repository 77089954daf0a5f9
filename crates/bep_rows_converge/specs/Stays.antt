-- What an exit status of 0 says of a stream of rows of which it was asked whether the cut converges (this project's profile).
use Rattle.std.specs.Prelude.{ℕ, List, Option}
use Rattle.bep_converge.specs.Laws.{GoesOnInRuns}
use Rattle.bep_converge.specs.Prevails.{AllPrevail}
use Rattle.bep_model.specs.Tables.{Tables}
use Rattle.bep_rows_answer.specs.Told.{SaysRows}

-- of each known name some record prevails, and so it goes on: of every cluster with these tables
pub record StaysConverging (t : Tables) : Type 0 where
  pub all : AllPrevail t
  pub goes_on : GoesOnInRuns t

-- the stream says a cut that converges
abbrev pub SaysConvergingRows : Option (List ℕ) → Option (List ℕ) → Type 0
SaysConvergingRows = SaysRows StaysConverging
