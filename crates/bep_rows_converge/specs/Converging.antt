-- What is answered to rows of which it is asked whether they converge (this project's profile).
use Rattle.std.specs.Prelude.{◌≡◌, ◌⊎◌, ℕ, List, Option, None, map, Contains, Result, Ok, Err}
use Rattle.std.specs.List.{AllZip}
use Rattle.bep_converge.specs.ConvergeVerdict as verdicts
use Rattle.bep_converge_answer.specs.Lines.{converge_report_text}
use Rattle.bep_converge_answer.specs.Status.{converge_status_of}
use Rattle.bep_converge_answer.specs.declared.outcome.Convergence.{Convergence}
use Rattle.bep_converge_answer.specs.declared.outcome.Convergence.TheVariants as outcomes
use Rattle.bep_converge_check.specs.Progress.{IsProgress, Progress}
use Rattle.bep_converge_parts.specs.FirstVerdict.{ConvergeComesUpTo}
use Rattle.bep_parts.specs.Parts.{only}
use Rattle.bep_report.specs.declared.error.ReportError.{ReportError}
use Rattle.bep_row.specs.declared.row.NameRow.{NameRow}
use Rattle.bep_rows.specs.AllRows.{NamesDiffer, cut_by, key_of_row}
use Rattle.bep_rows.specs.Names.{IsUpTo, is_name}
use Rattle.bep_rows.specs.Row.{IsRowOf}
use Rattle.bep_rows_answer.specs.Auditor.{last_of}
use Rattle.bep_rows_answer.specs.Told.{IsRowsTold}
use Rattle.bep_rows_answer.specs.declared.outcome.RowsOutcome.{RowsOutcome}
use Rattle.bep_rows_answer.specs.declared.outcome.RowsOutcome.TheVariants.{Met, NotMet, Refused}
use Rattle.bep_tables.specs.Cut.{tables_of}
use Rattle.bep_tables.specs.declared.cut.CutParts.{CutParts}
use Rattle.bep_rows_converge.specs.Pairs.{no_pairs, pairs_after, pairs_shown}
use Rattle.bep_rows_converge.specs.Standing.{hindrance_line, verdict_of}
use Rattle.bep_rows_converge.specs.declared.converging.Converging.{Converging}
use Rattle.bep_rows_converge.specs.declared.standing.ConvergeStanding.TheVariants as standings

-- the verdict on the row's name, as it is in each cut of which this is a row
abbrev pub IsVerdictOn : CutParts → NameRow → verdicts.ConvergeVerdict → Type 0
IsVerdictOn header row verdict = (whole : CutParts) → IsRowOf whole header row → verdicts.IsConvergeVerdict (only (is_name (row.folder, row.name)) (tables_of whole)) verdict

-- how far the row's name has come, as it is in each cut of which this is a row
pub record IsProgressOf (header : CutParts) (row : NameRow) (progress : Progress) : Type 0 where
  pub folder : progress.folder ≡ row.folder
  pub holds : (whole : CutParts) → IsRowOf whole header row → IsProgress (only (is_name (row.folder, row.name)) (tables_of whole)) progress

-- the text is the line of the first hindrance at the row's name, if it has one
pub record TellsHindrance (header : CutParts) (row : NameRow) (text : List ℕ) : Type 0 where
  pub verdict : verdicts.ConvergeVerdict
  pub judged : IsVerdictOn header row verdict
  pub told : text ≡ hindrance_line verdict

-- the outcome of a verdict
abbrev pub outcome_of : verdicts.ConvergeVerdict → RowsOutcome
outcome_of verdicts.Converging = Met
outcome_of (verdicts.NotConverging reason folder name device) = NotMet

-- The text is what `converge` writes of the cut for which the header and the rows stand: the verdict on it, and a line for each folder,
-- whose numbers are the sums of those of each row.
pub record EndsConverging (header : CutParts) (rows : List NameRow) (outcome : RowsOutcome) (text : List ℕ) : Type 0 where
  pub verdict : verdicts.ConvergeVerdict
  pub judged : verdicts.IsConvergeVerdict (tables_of (cut_by header rows)) verdict
  pub told : outcome ≡ outcome_of verdict
  pub progress : List Progress
  pub counted : AllZip (IsProgressOf header) rows progress
  pub written : text ≡ converge_report_text verdict (map pairs_shown (pairs_after progress (map no_pairs header.folders)))

-- ---- what is known once rows were given

-- the verdict so far is the one on some row, or none doesn't converge
abbrev pub IsAmong : CutParts → List NameRow → verdicts.ConvergeVerdict → Type 0
IsAmong header rows verdict = (verdict ≡ verdicts.Converging) ⊎ ((row : NameRow) × Contains rows row × IsVerdictOn header row verdict)

-- it comes no later than that on the row
abbrev pub ComesUpToThat : CutParts → NameRow → verdicts.ConvergeVerdict → Type 0
ComesUpToThat header row verdict = (here : verdicts.ConvergeVerdict) × IsVerdictOn header row here × ConvergeComesUpTo verdict here

pub record KnowsHindrances (header : CutParts) (rows : List NameRow) (now : Converging) : Type 0 where
  pub differ : NamesDiffer rows
  pub up_to : (row : NameRow) → Contains rows row → IsUpTo (last_of None rows) (key_of_row row)
  pub among : IsAmong header rows (verdict_of now.standing)
  pub first : (row : NameRow) → Contains rows row → ComesUpToThat header row (verdict_of now.standing)
  pub progress : List Progress
  pub counted : AllZip (IsProgressOf header) rows progress
  pub pairs : now.pairs ≡ pairs_after progress (map no_pairs header.folders)

-- ---- the exit status

-- an outcome where it was asked whether the cut converges
abbrev pub convergence_of : RowsOutcome → Convergence
convergence_of Met = outcomes.Converging
convergence_of NotMet = outcomes.NotConverging
convergence_of Refused = outcomes.Refused

-- the status after an answer, or where there is none
abbrev pub converge_rows_status : Result RowsOutcome ReportError → ℕ
converge_rows_status (Ok outcome) = converge_status_of (Ok (convergence_of outcome))
converge_rows_status (Err error) = converge_status_of (Err error)

-- a stream was answered where it was asked whether the cut converges
abbrev pub IsConvergeRowsTold : Option (List ℕ) → Option (List ℕ) → Option (List ℕ) → Option (List ℕ) → ℕ → Type 0
IsConvergeRowsTold = IsRowsTold TellsHindrance EndsConverging converge_rows_status
