-- The exit status where it was asked whether a cut converges (this project's profile).
use Rattle.std.specs.Prelude.{ℕ, List, Option, Result, Ok, Err}
use Rattle.bep_report.specs.declared.error.ReportError.{ReportError}
use Rattle.bep_report.specs.declared.error.ReportError.TheVariants as faults
use Rattle.bep_answer.specs.Status.{IsToldAs}
use Rattle.bep_converge_answer.specs.Convergence.{IsConvergeAnswerOfBytes}
use Rattle.bep_converge_answer.specs.declared.outcome.Convergence.{Convergence}
use Rattle.bep_converge_answer.specs.declared.outcome.Convergence.TheVariants.{Converging, NotConverging, Refused}

-- the status after an answer, or where there is none
abbrev pub converge_status_of : Result Convergence ReportError → ℕ
converge_status_of (Ok Converging) = 0
converge_status_of (Ok NotConverging) = 1
converge_status_of (Ok Refused) = 2
converge_status_of (Err faults.Memory) = 4
converge_status_of (Err faults.Read) = 5
converge_status_of (Err faults.Write) = 5

-- a document was answered where it was asked whether it converges
abbrev pub IsConvergeTold : Option (List ℕ) → Option (List ℕ) → Option (List ℕ) → Option (List ℕ) → ℕ → Type 0
IsConvergeTold = IsToldAs IsConvergeAnswerOfBytes converge_status_of
