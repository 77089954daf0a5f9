-- What an auditor answers is of the aim for which it was made.
use Rattle.std.proofs.Common.{◌≡◌, ℕ, List, Option, subst}
use Rattle.std.specs.Prelude.{IfOk, Result}
use Rattle.bep_report.specs.declared.error.ReportError.{ReportError}
use Rattle.bep_rows.specs.declared.aim.Aim.{Aim}
use Rattle.bep_rows_answer.specs.Stream.{IsAnswered, TellsRow}
use Rattle.bep_rows_answer.specs.Told.{IsRowsTold}
use Rattle.bep_rows_answer.specs.UnderWinners.{EndsUnderWinners}
use Rattle.bep_rows_answer.specs.declared.outcome.RowsOutcome.{RowsOutcome}

pub answered_of_aim : (Tells : Aim → TellsRow) (made asked : Aim) → made ≡ asked → (answer : Result RowsOutcome ReportError) (unread left held now : Option (List ℕ)) → IfOk answer (IsAnswered (Tells made) (EndsUnderWinners made) unread left held now) → IfOk answer (IsAnswered (Tells asked) (EndsUnderWinners asked) unread left held now)
answered_of_aim Tells made asked same answer unread left held now =
    subst (λ (aim : Aim). IfOk answer (IsAnswered (Tells aim) (EndsUnderWinners aim) unread left held now)) same

pub told_of_aim : (Tells : Aim → TellsRow) (made asked : Aim) → made ≡ asked → (status_after : Result RowsOutcome ReportError → ℕ) (unread left held now : Option (List ℕ)) (status : ℕ) → IsRowsTold (Tells made) (EndsUnderWinners made) status_after unread left held now status → IsRowsTold (Tells asked) (EndsUnderWinners asked) status_after unread left held now status
told_of_aim Tells made asked same status_after unread left held now status =
    subst (λ (aim : Aim). IsRowsTold (Tells aim) (EndsUnderWinners aim) status_after unread left held now status) same
