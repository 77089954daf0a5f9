-- What the program answers where it is asked for all that keeps a cut from being firm, and what it has written after it.
use Rattle.std.specs.Prelude.{◌≡◌, ◌↔◌, ℕ, List, [], ◌∷◌, Option}
use Rattle.bep_audit.specs.Loose.{Loosening}
use Rattle.bep_audit.specs.Walk.{Failure}
use Rattle.bep_document.specs.Reading.{Reading, Read, Refused}
use Rattle.bep_model.specs.declared.row.Row.{Row}
use Rattle.bep_model.specs.Firm.{IsFirm}
use Rattle.bep_model.specs.Settled.{IsSettled}
use Rattle.bep_tables.specs.declared.cut.CutParts.{CutParts}
use Rattle.bep_tables.specs.Cut.{tables_of}
use Rattle.bep_cut_document.specs.Written.{check_of}
use Rattle.bep_explain.specs.Found.{AreFailures}
use Rattle.bep_explain.specs.Loose.{AreLoosenings}
use Rattle.bep_explain.specs.Annotated.{Annotated, IsJsonLine, failures_in}
use Rattle.bep_explain.specs.FirmTold.{LooseAnnotated, LooseTold, firm_explanation_text, firm_explanation_tree, loosenings_in, loosenings_of}
use Rattle.bep_explain.specs.Told.{Told, failures_of}
use Rattle.bep_lines.specs.declared.form.Form.{Form}
use Rattle.bep_lines.specs.declared.form.Form.TheVariants.{Text, Json}
use Rattle.bep_answer.specs.Status.{IsToldAs, firm_status_of}
use Rattle.bep_answer.specs.declared.outcome.Firmness.{Firmness}
use Rattle.bep_answer.specs.declared.outcome.Firmness.TheVariants as outcomes
use Rattle.bep_explain.specs.document.Explained.{IsRefusal}

-- the text tells these failures and then these loosenings, in order, each with something that is said of it, in one of two forms
abbrev pub IsFirmWritten : Form → List Failure → List Loosening → List ℕ → Type 0
IsFirmWritten Text found loose text =
    (told : List Told) × (more : List LooseTold) × (failures_of told ≡ found) × (loosenings_of more ≡ loose) × (text ≡ firm_explanation_text told more)
IsFirmWritten Json found loose text =
    (told : List Annotated) × (more : List LooseAnnotated) × (failures_in told ≡ found) × (loosenings_in more ≡ loose) × IsJsonLine (firm_explanation_tree told more) text

-- firm where nothing is told
abbrev pub firmness_told : List Failure → List Loosening → Firmness
firmness_told [] [] = outcomes.Firm
firmness_told [] (one ∷ more) = outcomes.NotFirm
firmness_told (one ∷ more) loose = outcomes.NotFirm

-- all that fails of the cut under the rows is told, in order, and then all that keeps a settled cut from being firm; the
-- first is nothing exactly where they are settled, both are nothing exactly where they are firm
pub record IsFirmExplanation (form : Form) (cut : CutParts) (rows : List Row) (outcome : Firmness) (text : List ℕ) : Type 0 where
  pub found : List Failure
  pub all : AreFailures (tables_of cut) rows found
  pub loose : List Loosening
  pub all_loose : AreLoosenings (tables_of cut) rows loose
  pub settled : (found ≡ []) ↔ IsSettled (tables_of cut) rows
  pub firm : ((found ≡ []) × (loose ≡ [])) ↔ IsFirm (tables_of cut) rows
  pub verdict : outcome ≡ firmness_told found loose
  pub written : IsFirmWritten form found loose text

-- the outcome and the text for what a document says: its explanation, or the fault for which it is refused
abbrev pub IsFirmExplained : Form → Reading (CutParts × List Row) → Firmness → List ℕ → Type 0
IsFirmExplained form (Read check) outcome text = IsFirmExplanation form check.0 check.1 outcome text
IsFirmExplained form (Refused fault) outcome text = (outcome ≡ outcomes.Refused) × IsRefusal form fault text

-- the same of the bytes of a document
abbrev pub IsFirmExplainedOfBytes : Form → List ℕ → Firmness → List ℕ → Type 0
IsFirmExplainedOfBytes form bytes outcome text = IsFirmExplained form (check_of bytes) outcome text

-- all of that was written, or the document refused, and the status says which
abbrev pub IsFirmExplanationTold : Form → Option (List ℕ) → Option (List ℕ) → Option (List ℕ) → Option (List ℕ) → ℕ → Type 0
IsFirmExplanationTold form = IsToldAs (IsFirmExplainedOfBytes form) firm_status_of
