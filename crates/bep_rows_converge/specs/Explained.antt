-- What is written to rows where all that keeps each name from converging is explained (this project's profile).
use Rattle.std.specs.Prelude.{◌≡◌, ℕ, List, [], Option}
use Rattle.bep_converge_answer.specs.declared.outcome.Convergence.{Convergence}
use Rattle.bep_converge_answer.specs.declared.outcome.Convergence.TheVariants as outcomes
use Rattle.bep_converge_explain.specs.Explained.{IsConvergeExplanation}
use Rattle.bep_lines.specs.declared.form.Form.TheVariants.{Text}
use Rattle.bep_model.specs.Tables.{Tables}
use Rattle.bep_parts.specs.Parts.{only}
use Rattle.bep_row.specs.declared.row.NameRow.{NameRow}
use Rattle.bep_rows.specs.Names.{is_name}
use Rattle.bep_rows.specs.Row.{IsRowOf}
use Rattle.bep_rows_answer.specs.Told.{IsRowsTold}
use Rattle.bep_tables.specs.Cut.{tables_of}
use Rattle.bep_tables.specs.declared.cut.CutParts.{CutParts}
use Rattle.bep_rows_converge.specs.Converging.{EndsConverging, converge_rows_status}

-- the lines of an explanation, of which there are none where nothing fails
abbrev pub lines_unless_converging : Convergence → List ℕ → List ℕ
lines_unless_converging outcomes.Converging text = []
lines_unless_converging outcomes.NotConverging text = text
lines_unless_converging outcomes.Refused text = text

-- the text has the lines that `explain --converge` writes of these tables; none where they converge
pub record ExplainsConverging (t : Tables) (text : List ℕ) : Type 0 where
  pub convergence : Convergence
  pub explanation : List ℕ
  pub explained : IsConvergeExplanation Text t convergence explanation
  pub lines : text ≡ lines_unless_converging convergence explanation

-- what is written to a row explains its name, as it is in each cut of which this is a row
abbrev pub ExplainsHindrances : CutParts → NameRow → List ℕ → Type 0
ExplainsHindrances header row text = (whole : CutParts) → IsRowOf whole header row → ExplainsConverging (only (is_name (row.folder, row.name)) (tables_of whole)) text

-- a stream was answered where rows are explained: the verdict and the numbers are as else
abbrev pub IsExplainedConvergeRowsTold : Option (List ℕ) → Option (List ℕ) → Option (List ℕ) → Option (List ℕ) → ℕ → Type 0
IsExplainedConvergeRowsTold = IsRowsTold ExplainsHindrances EndsConverging converge_rows_status
