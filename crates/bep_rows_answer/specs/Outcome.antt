-- What is answered to a stream of rows, and the exit status that tells it (this project's profile).
use Rattle.std.specs.Prelude.{ℕ, Result, Ok, Err}
use Rattle.bep_answer.specs.Status.{firm_status_of, status_of}
use Rattle.bep_answer.specs.declared.outcome.Firmness.{Firmness}
use Rattle.bep_answer.specs.declared.outcome.Firmness.TheVariants as firmness
use Rattle.bep_answer.specs.declared.outcome.Outcome.{Outcome}
use Rattle.bep_answer.specs.declared.outcome.Outcome.TheVariants as outcomes
use Rattle.bep_report.specs.declared.error.ReportError.{ReportError}
use Rattle.bep_rows.specs.declared.aim.Aim.{Aim}
use Rattle.bep_rows.specs.declared.aim.Aim.TheVariants as aims
use Rattle.bep_rows.specs.declared.standing.Standing.{Standing}
use Rattle.bep_rows.specs.declared.standing.Standing.TheVariants as standings
use Rattle.bep_rows_answer.specs.declared.outcome.RowsOutcome.{RowsOutcome}
use Rattle.bep_rows_answer.specs.declared.outcome.RowsOutcome.TheVariants.{Met, NotMet, Refused}

-- the outcome of a standing
abbrev pub outcome_of : Standing → RowsOutcome
outcome_of standings.Met = Met
outcome_of (standings.Not reason folder name device) = NotMet
outcome_of (standings.Loose reason folder name device) = NotMet
outcome_of (standings.Unwon folder name) = NotMet

-- an outcome where settled was asked for
abbrev pub settled_outcome : RowsOutcome → Outcome
settled_outcome Met = outcomes.Settled
settled_outcome NotMet = outcomes.NotSettled
settled_outcome Refused = outcomes.Refused

-- an outcome where firm was asked for
abbrev pub firmness_of : RowsOutcome → Firmness
firmness_of Met = firmness.Firm
firmness_of NotMet = firmness.NotFirm
firmness_of Refused = firmness.Refused

-- the status after an answer, or where there is none
abbrev pub rows_status_of : Aim → Result RowsOutcome ReportError → ℕ
rows_status_of aims.Settled (Ok outcome) = status_of (Ok (settled_outcome outcome))
rows_status_of aims.Settled (Err error) = status_of (Err error)
rows_status_of aims.Firm (Ok outcome) = firm_status_of (Ok (firmness_of outcome))
rows_status_of aims.Firm (Err error) = firm_status_of (Err error)
