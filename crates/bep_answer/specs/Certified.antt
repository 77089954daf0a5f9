-- What the program answers where it is asked for a certificate of the cut of a document, and what it has written after it.
use Rattle.std.specs.Prelude.{◌≡◌, ◌≤◌, ◌++◌, ℕ, List, length, None}
use Rattle.bep_audit.specs.Certifier.{IsSettledIfAny, IsNeverSettled}
use Rattle.bep_json.specs.declared.version.DocVersion.{DocVersion}
use Rattle.bep_document.specs.Reading.{Reading, Read, Refused, most_bytes}
use Rattle.bep_model.specs.declared.reason.Reason.TheVariants.{NotWinner}
use Rattle.bep_model.specs.declared.row.Row.{Row}
use Rattle.bep_model.specs.Settled.{IsListOfWinners}
use Rattle.bep_model.specs.Tables.{Folder, FileName}
use Rattle.bep_model.specs.Verdict.{Not}
use Rattle.bep_model.specs.WithoutWinner.{IsFirstWithoutWinner}
use Rattle.bep_tables.specs.declared.cut.CutParts.{CutParts}
use Rattle.bep_tables.specs.Cut.{tables_of}
use Rattle.bep_cut_document.specs.Room.{HasRoom}
use Rattle.bep_cut_document.specs.Trees.{check_document_text}
use Rattle.bep_cut_document.specs.Written.{check_of, cut_of_document}
use Rattle.bep_lines.specs.Lines.{verdict_line, newline}
use Rattle.bep_answer.specs.Answer.{fault_text}
use Rattle.bep_answer.specs.declared.outcome.Certified.{Certified}
use Rattle.bep_answer.specs.declared.outcome.Certified.TheVariants.{Written, NoWinner}
use Rattle.bep_answer.specs.declared.outcome.Certified.TheVariants as outcomes

-- the document of this version of this cut with these rows, on a line
abbrev pub document_text : DocVersion → CutParts → List Row → List ℕ
document_text version cut rows = check_document_text version cut rows ++ newline

-- the text is the document of this version of this cut with the one list of its names' winners, for which it is settled if it
-- is for any
pub record IsDocumentOf (version : DocVersion) (cut : CutParts) (text : List ℕ) : Type 0 where
  pub rows : List Row
  pub winners : IsListOfWinners (tables_of cut) rows
  pub settled_if_any : IsSettledIfAny (tables_of cut) rows
  pub written : text ≡ document_text version cut rows
  -- without its line's end it is read as the very cut and rows, where its version has room for the cut and it isn't longer
  -- than a document may be
  pub read_back : HasRoom version cut → length (check_document_text version cut rows) ≤ most_bytes → check_of (check_document_text version cut rows) ≡ Read (cut, rows)

-- the text is the line of the cut's first known name without a winner, and the cut is settled for no list of rows
pub record IsLineWithout (cut : CutParts) (text : List ℕ) : Type 0 where
  pub folder : Folder
  pub name : FileName
  pub without : IsFirstWithoutWinner (tables_of cut) folder name
  pub never_settled : IsNeverSettled (tables_of cut)
  pub told : text ≡ verdict_line (Not NotWinner folder name None)

-- the outcome and the text for a cut, whose document is to be of this version
abbrev pub IsCertificate : DocVersion → CutParts → Certified → List ℕ → Type 0
IsCertificate version cut Written text = IsDocumentOf version cut text
IsCertificate version cut NoWinner text = IsLineWithout cut text
IsCertificate version cut outcomes.Refused text = ⊥

-- the outcome and the text for what a document says of its cut: a certificate for it, in the document's version, or the fault for which it is refused
abbrev pub IsCertified : Reading (DocVersion × CutParts) → Certified → List ℕ → Type 0
IsCertified (Read said) outcome text = IsCertificate said.0 said.1 outcome text
IsCertified (Refused fault) outcome text = (outcome ≡ outcomes.Refused) × (text ≡ fault_text fault)

-- the same of the bytes of a document
abbrev pub IsCertifiedOfBytes : List ℕ → Certified → List ℕ → Type 0
IsCertifiedOfBytes bytes outcome text = IsCertified (cut_of_document bytes) outcome text
