-- What the program answers where it is asked for a certificate of the cut of a document as far as its names have winners.
use Rattle.std.specs.Prelude.{◌≡◌, ◌≤◌, ℕ, List, [], ◌∷◌, length}
use Rattle.bep_audit.specs.Certifier.{AreWinners}
use Rattle.bep_json.specs.declared.version.DocVersion.{DocVersion}
use Rattle.bep_document.specs.Reading.{Reading, Read, Refused, most_bytes}
use Rattle.bep_model.specs.Reasons.{Place}
use Rattle.bep_model.specs.declared.row.Row.{Row}
use Rattle.bep_tables.specs.declared.cut.CutParts.{CutParts}
use Rattle.bep_tables.specs.Cut.{tables_of}
use Rattle.bep_cut_document.specs.Room.{HasRoom}
use Rattle.bep_cut_document.specs.Trees.{check_document_text}
use Rattle.bep_cut_document.specs.Written.{check_of, cut_of_document}
use Rattle.bep_answer.specs.Answer.{fault_text}
use Rattle.bep_answer.specs.Certified.{document_text}
use Rattle.bep_answer.specs.declared.outcome.Partial.{Partial}
use Rattle.bep_answer.specs.declared.outcome.Partial.TheVariants as outcomes

-- the outcome where these places have no winner
abbrev pub partial_of : List Place → Partial
partial_of [] = outcomes.Whole
partial_of (one ∷ more) = outcomes.Part

-- the text is the document of this version of this cut with a row for each known name that has a winner, and for no other;
-- the outcome says whether some known name has none
pub record IsPart (version : DocVersion) (cut : CutParts) (outcome : Partial) (text : List ℕ) : Type 0 where
  pub rows : List Row
  pub without : List Place
  pub winners : AreWinners (tables_of cut) rows without
  pub told : outcome ≡ partial_of without
  pub written : text ≡ document_text version cut rows
  -- without its line's end it is read as the very cut and rows, where its version has room for the cut and it isn't longer
  -- than a document may be
  pub read_back : HasRoom version cut → length (check_document_text version cut rows) ≤ most_bytes → check_of (check_document_text version cut rows) ≡ Read (cut, rows)

-- the outcome and the text for what a document says of its cut: that, or the fault for which it is refused
abbrev pub IsPartly : Reading (DocVersion × CutParts) → Partial → List ℕ → Type 0
IsPartly (Read said) outcome text = IsPart said.0 said.1 outcome text
IsPartly (Refused fault) outcome text = (outcome ≡ outcomes.Refused) × (text ≡ fault_text fault)

-- the same of the bytes of a document
abbrev pub IsPartlyOfBytes : List ℕ → Partial → List ℕ → Type 0
IsPartlyOfBytes bytes outcome text = IsPartly (cut_of_document bytes) outcome text
