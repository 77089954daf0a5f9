-- What the program answers where it is asked for all reasons why a cut isn't settled, and what it has written after it.
use Rattle.std.specs.Prelude.{◌≡◌, ◌↔◌, ℕ, List, [], Option, Some, None, codes}
use Rattle.serde_json.specs.Data.{Data, null, string, object, no_members, member}
use Rattle.bep_json.specs.Written.{whole}
use Rattle.bep_audit.specs.Walk.{Failure}
use Rattle.bep_document.specs.declared.fault.DocFault.{DocFault}
use Rattle.bep_document.specs.Fault.{number_of, name_of}
use Rattle.bep_document.specs.Reading.{Reading, Read, Refused}
use Rattle.bep_model.specs.declared.row.Row.{Row}
use Rattle.bep_model.specs.Settled.{IsSettled}
use Rattle.bep_model.specs.Verdict.{IsVerdict}
use Rattle.bep_tables.specs.declared.cut.CutParts.{CutParts}
use Rattle.bep_tables.specs.Cut.{tables_of}
use Rattle.bep_cut_document.specs.Written.{check_of}
use Rattle.bep_explain.specs.Found.{AreFailures, verdict_of}
use Rattle.bep_explain.specs.Annotated.{Annotated, IsJsonLine, device_tree, explanation_tree, failures_in}
use Rattle.bep_explain.specs.Told.{Told, failures_of, explanation_text}
use Rattle.bep_answer.specs.Answer.{fault_text, outcome_of}
use Rattle.bep_lines.specs.declared.form.Form.{Form}
use Rattle.bep_lines.specs.declared.form.Form.TheVariants.{Text, Json}
use Rattle.bep_answer.specs.declared.outcome.Outcome.{Outcome}
use Rattle.bep_answer.specs.declared.outcome.Outcome.TheVariants as outcomes

-- the text tells these failures, in order, each with something that is said of it, in one of two forms
abbrev pub IsWritten : Form → List Failure → List ℕ → Type 0
IsWritten Text found text = (told : List Told) × (failures_of told ≡ found) × (text ≡ explanation_text told)
IsWritten Json found text = (told : List Annotated) × (failures_in told ≡ found) × IsJsonLine (explanation_tree told) text

-- all that fails of the cut under the rows is told, in order; it is nothing exactly where they are settled, and its first
-- is what the verdict tells
pub record IsExplanation (form : Form) (cut : CutParts) (rows : List Row) (outcome : Outcome) (text : List ℕ) : Type 0 where
  pub found : List Failure
  pub all : AreFailures (tables_of cut) rows found
  pub settled : (found ≡ []) ↔ IsSettled (tables_of cut) rows
  pub judged : IsVerdict (tables_of cut) rows (verdict_of found)
  pub verdict : outcome ≡ outcome_of (verdict_of found)
  pub written : IsWritten form found text

-- a text as JSON, null where there is none
abbrev pub text_tree : Option (List ℕ) → Data
text_tree None = null
text_tree (Some text) = string text

-- the tree of a fault: its number and word, and its place as far as it has one
unfoldable pub refusal_tree : DocFault → Data
refusal_tree fault =
    object
    (member (codes "refused")
    (object
    (member (codes "device") (device_tree fault.device)
    (member (codes "fault") (string (name_of fault.fault))
    (member (codes "folder") (text_tree fault.folder)
    (member (codes "name") (text_tree fault.name)
    (member (codes "number") (whole (number_of fault.fault)) no_members))))))
    no_members)

-- the text tells the fault in one of two forms
abbrev pub IsRefusal : Form → DocFault → List ℕ → Type 0
IsRefusal Text fault text = text ≡ fault_text fault
IsRefusal Json fault text = IsJsonLine (refusal_tree fault) text

-- the outcome and the text for what a document says: its explanation, or the fault for which it is refused
abbrev pub IsExplained : Form → Reading (CutParts × List Row) → Outcome → List ℕ → Type 0
IsExplained form (Read check) outcome text = IsExplanation form check.0 check.1 outcome text
IsExplained form (Refused fault) outcome text = (outcome ≡ outcomes.Refused) × IsRefusal form fault text

-- the same of the bytes of a document
abbrev pub IsExplainedOfBytes : Form → List ℕ → Outcome → List ℕ → Type 0
IsExplainedOfBytes form bytes outcome text = IsExplained form (check_of bytes) outcome text
