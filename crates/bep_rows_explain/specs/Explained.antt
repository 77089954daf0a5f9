-- What is written to rows where all that fails of each name is explained (this project's profile).
use Rattle.std.specs.Prelude.{◌≡◌, ℕ, List, [], Option}
use Rattle.bep_answer.specs.declared.outcome.Firmness.{Firmness}
use Rattle.bep_answer.specs.declared.outcome.Firmness.TheVariants as firmness
use Rattle.bep_answer.specs.declared.outcome.Outcome.{Outcome}
use Rattle.bep_answer.specs.declared.outcome.Outcome.TheVariants as outcomes
use Rattle.bep_explain.specs.document.UnderWinners.{IsExplanationUnderWinners, IsFirmExplanationUnderWinners}
use Rattle.bep_lines.specs.declared.form.Form.TheVariants.{Text}
use Rattle.bep_model.specs.Tables.{Tables}
use Rattle.bep_parts.specs.Parts.{only}
use Rattle.bep_row.specs.declared.row.NameRow.{NameRow}
use Rattle.bep_rows.specs.Names.{is_name}
use Rattle.bep_rows.specs.Row.{IsRowOf}
use Rattle.bep_rows.specs.declared.aim.Aim.{Aim}
use Rattle.bep_rows.specs.declared.aim.Aim.TheVariants as aims
use Rattle.bep_rows_answer.specs.Outcome.{rows_status_of}
use Rattle.bep_rows_answer.specs.Told.{IsRowsTold}
use Rattle.bep_rows_answer.specs.UnderWinners.{EndsUnderWinners}
use Rattle.bep_tables.specs.Cut.{tables_of}
use Rattle.bep_tables.specs.declared.cut.CutParts.{CutParts}

-- the lines of an explanation, of which there are none where nothing fails
abbrev pub lines_unless_settled : Outcome → List ℕ → List ℕ
lines_unless_settled outcomes.Settled text = []
lines_unless_settled outcomes.NotSettled text = text
lines_unless_settled outcomes.Refused text = text

abbrev pub lines_unless_firm : Firmness → List ℕ → List ℕ
lines_unless_firm firmness.Firm text = []
lines_unless_firm firmness.NotFirm text = text
lines_unless_firm firmness.Refused text = text

-- the text has the lines that `explain --certify` writes of these tables; none where they are settled
pub record ExplainsSettled (t : Tables) (text : List ℕ) : Type 0 where
  pub outcome : Outcome
  pub explanation : List ℕ
  pub explained : IsExplanationUnderWinners Text t outcome explanation
  pub lines : text ≡ lines_unless_settled outcome explanation

-- the same of `explain --certify --firm`; none where they are firm
pub record ExplainsFirm (t : Tables) (text : List ℕ) : Type 0 where
  pub firmness : Firmness
  pub explanation : List ℕ
  pub explained : IsFirmExplanationUnderWinners Text t firmness explanation
  pub lines : text ≡ lines_unless_firm firmness explanation

abbrev pub Explains : Aim → Tables → List ℕ → Type 0
Explains aims.Settled t text = ExplainsSettled t text
Explains aims.Firm t text = ExplainsFirm t text

-- what is written to a row explains its name, as it is in each cut of which this is a row
abbrev pub ExplainsRow : Aim → CutParts → NameRow → List ℕ → Type 0
ExplainsRow aim header row text = (whole : CutParts) → IsRowOf whole header row → Explains aim (only (is_name (row.folder, row.name)) (tables_of whole)) text

-- a stream was answered where rows are explained: the verdict and the counts are those of `rows`
abbrev pub IsExplainedRowsTold : Option (List ℕ) → Option (List ℕ) → Option (List ℕ) → Option (List ℕ) → ℕ → Type 0
IsExplainedRowsTold = IsRowsTold (ExplainsRow aims.Settled) (EndsUnderWinners aims.Settled) (rows_status_of aims.Settled)

-- the same where firm is asked for
abbrev pub IsFirmExplainedRowsTold : Option (List ℕ) → Option (List ℕ) → Option (List ℕ) → Option (List ℕ) → ℕ → Type 0
IsFirmExplainedRowsTold = IsRowsTold (ExplainsRow aims.Firm) (EndsUnderWinners aims.Firm) (rows_status_of aims.Firm)
