-- What the program answers where it is asked for all that keeps a cut from converging, and what it has written after it.
use Rattle.std.specs.Prelude.{◌≡◌, ◌↔◌, ℕ, List, [], Option}
use Rattle.bep_document.specs.Reading.{Reading, Read, Refused}
use Rattle.bep_json.specs.declared.version.DocVersion.{DocVersion}
use Rattle.bep_model.specs.Tables.{Tables}
use Rattle.bep_tables.specs.declared.cut.CutParts.{CutParts}
use Rattle.bep_tables.specs.Cut.{tables_of}
use Rattle.bep_cut_document.specs.Written.{cut_of_document}
use Rattle.bep_lines.specs.declared.form.Form.{Form}
use Rattle.bep_lines.specs.declared.form.Form.TheVariants.{Text, Json}
use Rattle.bep_answer.specs.Status.{IsToldAs}
use Rattle.bep_explain.specs.Annotated.{IsJsonLine}
use Rattle.bep_explain.specs.document.Explained.{IsRefusal}
use Rattle.bep_converge.specs.Prevails.{AllPrevail}
use Rattle.bep_converge.specs.ConvergeVerdict.{IsConvergeVerdict}
use Rattle.bep_converge_check.specs.Hindrance.{Hinder}
use Rattle.bep_converge_check.specs.Hindrances.{AreHindrances, converge_verdict_of}
use Rattle.bep_converge_answer.specs.Convergence.{convergence_of}
use Rattle.bep_converge_answer.specs.Status.{converge_status_of}
use Rattle.bep_converge_answer.specs.declared.outcome.Convergence.{Convergence}
use Rattle.bep_converge_answer.specs.declared.outcome.Convergence.TheVariants as outcomes
use Rattle.bep_converge_explain.specs.Told.{HinderAnnotated, HinderTold, converge_explanation_text, converge_explanation_tree, hinders_in, hinders_of}

-- the text tells these, in order, each with something that is said of it, in one of two forms
abbrev pub IsConvergeWritten : Form → List Hinder → List ℕ → Type 0
IsConvergeWritten Text found text = (told : List HinderTold) × (hinders_of told ≡ found) × (text ≡ converge_explanation_text told)
IsConvergeWritten Json found text = (told : List HinderAnnotated) × (hinders_in told ≡ found) × IsJsonLine (converge_explanation_tree told) text

-- all of the eight reasons that fail of a cut are told, in order; that is nothing exactly where it converges, and the first
-- is what the verdict tells
pub record IsConvergeExplanation (form : Form) (t : Tables) (outcome : Convergence) (text : List ℕ) : Type 0 where
  pub found : List Hinder
  pub all : AreHindrances t found
  pub converging : (found ≡ []) ↔ AllPrevail t
  pub judged : IsConvergeVerdict t (converge_verdict_of found)
  pub verdict : outcome ≡ convergence_of (converge_verdict_of found)
  pub written : IsConvergeWritten form found text

-- the outcome and the text for what a document says of its cut: its explanation, or the fault for which it is refused
abbrev pub IsConvergeExplained : Form → Reading (DocVersion × CutParts) → Convergence → List ℕ → Type 0
IsConvergeExplained form (Read said) outcome text = IsConvergeExplanation form (tables_of said.1) outcome text
IsConvergeExplained form (Refused fault) outcome text = (outcome ≡ outcomes.Refused) × IsRefusal form fault text

-- the same of the bytes of a document, whose certificate may be missing and isn't looked at
abbrev pub IsConvergeExplainedOfBytes : Form → List ℕ → Convergence → List ℕ → Type 0
IsConvergeExplainedOfBytes form bytes outcome text = IsConvergeExplained form (cut_of_document bytes) outcome text

-- all of that was written, or the document refused, and the status says which
abbrev pub IsConvergeExplanationTold : Form → Option (List ℕ) → Option (List ℕ) → Option (List ℕ) → Option (List ℕ) → ℕ → Type 0
IsConvergeExplanationTold form = IsToldAs (IsConvergeExplainedOfBytes form) converge_status_of
