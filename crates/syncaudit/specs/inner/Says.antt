-- What an exit status of 0 says in each mode.
use Rattle.std.specs.Prelude.{◌≡◌, ◌<◌, ℕ, ⊤, List, Option}
use Rattle.bep_answer.specs.Answer.{SaysSettled}
use Rattle.bep_answer.specs.Firm.{SaysFirm}
use Rattle.bep_answer.specs.UnderWinners.{SaysFirmUnderWinners, SaysSettledUnderWinners}
use Rattle.bep_converge_answer.specs.Convergence.{SaysConverging}
use Rattle.bep_live.specs.Lived.{EndsLived}
use Rattle.bep_play.specs.Played.{EndsSettled}
use Rattle.bep_rows_answer.specs.Told.{SaysFirmRows, SaysSettledRows}
use Rattle.bep_rows_converge.specs.Stays.{SaysConvergingRows}
use Rattle.bep_words.specs.declared.mode.Ending.TheVariants.{Report, Document}
use Rattle.bep_words.specs.declared.mode.Goal.TheVariants as goals
use Rattle.bep_words.specs.declared.mode.Mode.{Mode}
use Rattle.bep_words.specs.declared.mode.Mode.TheVariants.{Check, Firm, Converge, Certify, Explain, Rows, Run}
use Rattle.bep_words.specs.declared.mode.Under.TheVariants.{Given, Winners}

-- of a certificate and an explanation nothing more
abbrev pub SaysIn : Mode → Option (List ℕ) → Option (List ℕ) → Type 0
SaysIn (Check Given) unread left = SaysSettled unread left
SaysIn (Check Winners) unread left = SaysSettledUnderWinners unread left
SaysIn (Firm Given) unread left = SaysFirm unread left
SaysIn (Firm Winners) unread left = SaysFirmUnderWinners unread left
SaysIn Converge unread left = SaysConverging unread left
SaysIn (Certify extent) unread left = ⊤
SaysIn (Explain goal under form) unread left = ⊤
SaysIn (Rows goals.Settled told) unread left = SaysSettledRows unread left
SaysIn (Rows goals.Firm told) unread left = SaysFirmRows unread left
SaysIn (Rows goals.Converging told) unread left = SaysConvergingRows unread left
SaysIn (Run Report turns) unread left = (turns ≡ 0 → EndsSettled unread left) × (0 < turns → EndsLived unread left)
SaysIn (Run Document turns) unread left = ⊤
