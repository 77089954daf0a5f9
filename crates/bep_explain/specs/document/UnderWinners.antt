-- What the program answers where it is asked for all that fails of a cut under the winners of its names, and what it has
-- written after it.
use Rattle.std.specs.Prelude.{◌≡◌, ◌↔◌, ℕ, List, [], Option}
use Rattle.bep_audit.specs.Certifier.{AreWinners}
use Rattle.bep_audit.specs.Loose.{Loosening}
use Rattle.bep_audit.specs.Walk.{Failure}
use Rattle.bep_document.specs.Reading.{Reading, Read, Refused}
use Rattle.bep_json.specs.declared.version.DocVersion.{DocVersion}
use Rattle.bep_model.specs.Firm.{IsFirm}
use Rattle.bep_model.specs.Reasons.{Place}
use Rattle.bep_model.specs.Settled.{IsSettled}
use Rattle.bep_model.specs.Tables.{Tables}
use Rattle.bep_model.specs.declared.row.Row.{Row}
use Rattle.bep_tables.specs.declared.cut.CutParts.{CutParts}
use Rattle.bep_tables.specs.Cut.{tables_of}
use Rattle.bep_cut_document.specs.Written.{cut_of_document}
use Rattle.bep_lines.specs.declared.form.Form.{Form}
use Rattle.bep_answer.specs.Answer.{outcome_of}
use Rattle.bep_answer.specs.Status.{IsToldAs, firm_status_of, status_of}
use Rattle.bep_answer.specs.declared.outcome.Firmness.{Firmness}
use Rattle.bep_answer.specs.declared.outcome.Firmness.TheVariants as firmness
use Rattle.bep_answer.specs.declared.outcome.Outcome.{Outcome}
use Rattle.bep_answer.specs.declared.outcome.Outcome.TheVariants as outcomes
use Rattle.bep_explain.specs.Found.{verdict_of}
use Rattle.bep_explain.specs.Loose.{AreLoosenings}
use Rattle.bep_explain.specs.Unwon.{AreFailuresUnwon}
use Rattle.bep_explain.specs.document.Explained.{IsRefusal, IsWritten}
use Rattle.bep_explain.specs.document.FirmExplained.{IsFirmWritten, firmness_told}

-- all that fails of a cut under the winners of its names is told, in order, each name without a winner as that; it is
-- nothing exactly where the cut is settled under them
pub record IsExplanationUnderWinners (form : Form) (t : Tables) (outcome : Outcome) (text : List ℕ) : Type 0 where
  pub rows : List Row
  pub without : List Place
  pub winners : AreWinners t rows without
  pub told : List Failure
  pub all : AreFailuresUnwon t rows told
  pub settled : (told ≡ []) ↔ IsSettled t rows
  pub verdict : outcome ≡ outcome_of (verdict_of told)
  pub written : IsWritten form told text

-- the outcome and the text for what a document says of its cut: its explanation, or the fault for which it is refused
abbrev pub IsExplainedUnderWinners : Form → Reading (DocVersion × CutParts) → Outcome → List ℕ → Type 0
IsExplainedUnderWinners form (Read said) outcome text = IsExplanationUnderWinners form (tables_of said.1) outcome text
IsExplainedUnderWinners form (Refused fault) outcome text = (outcome ≡ outcomes.Refused) × IsRefusal form fault text

-- the same of the bytes of a document
abbrev pub IsExplainedUnderWinnersOfBytes : Form → List ℕ → Outcome → List ℕ → Type 0
IsExplainedUnderWinnersOfBytes form bytes outcome text = IsExplainedUnderWinners form (cut_of_document bytes) outcome text

-- all that fails was written, or the document refused, and the status says which
abbrev pub IsExplanationToldUnderWinners : Form → Option (List ℕ) → Option (List ℕ) → Option (List ℕ) → Option (List ℕ) → ℕ → Type 0
IsExplanationToldUnderWinners form = IsToldAs (IsExplainedUnderWinnersOfBytes form) status_of

-- ---- where firm is asked for

-- all of that is told, and then all that keeps a settled cut from being firm; both are nothing exactly where the cut is firm
-- under the winners of its names
pub record IsFirmExplanationUnderWinners (form : Form) (t : Tables) (outcome : Firmness) (text : List ℕ) : Type 0 where
  pub rows : List Row
  pub without : List Place
  pub winners : AreWinners t rows without
  pub told : List Failure
  pub all : AreFailuresUnwon t rows told
  pub loose : List Loosening
  pub all_loose : AreLoosenings t rows loose
  pub settled : (told ≡ []) ↔ IsSettled t rows
  pub firm : ((told ≡ []) × (loose ≡ [])) ↔ IsFirm t rows
  pub verdict : outcome ≡ firmness_told told loose
  pub written : IsFirmWritten form told loose text

-- the outcome and the text for what a document says of its cut: its explanation, or the fault for which it is refused
abbrev pub IsFirmExplainedUnderWinners : Form → Reading (DocVersion × CutParts) → Firmness → List ℕ → Type 0
IsFirmExplainedUnderWinners form (Read said) outcome text = IsFirmExplanationUnderWinners form (tables_of said.1) outcome text
IsFirmExplainedUnderWinners form (Refused fault) outcome text = (outcome ≡ firmness.Refused) × IsRefusal form fault text

-- the same of the bytes of a document
abbrev pub IsFirmExplainedUnderWinnersOfBytes : Form → List ℕ → Firmness → List ℕ → Type 0
IsFirmExplainedUnderWinnersOfBytes form bytes outcome text = IsFirmExplainedUnderWinners form (cut_of_document bytes) outcome text

-- all of that was written, or the document refused, and the status says which
abbrev pub IsFirmExplanationToldUnderWinners : Form → Option (List ℕ) → Option (List ℕ) → Option (List ℕ) → Option (List ℕ) → ℕ → Type 0
IsFirmExplanationToldUnderWinners form = IsToldAs (IsFirmExplainedUnderWinnersOfBytes form) firm_status_of
