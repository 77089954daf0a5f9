-- What follows from the definitions of answers; the functions of src/laws.rt have these as contracts.
use Rattle.std.specs.Prelude.{◌≡◌, ◌≤◌, ◌++◌, ℕ, List, Option, length}
use Rattle.bep_document.specs.Reading.{most_bytes}
use Rattle.bep_lines.specs.Lines.{newline}
use Rattle.bep_model.specs.declared.row.Row.{Row}
use Rattle.bep_tables.specs.declared.cut.CutParts.{CutParts}
use Rattle.bep_json.specs.declared.version.DocVersion.{DocVersion}
use Rattle.bep_answer.specs.Answer.{IsAnswerOfBytes}
use Rattle.bep_answer.specs.Certified.{IsCertificate, IsCertifiedOfBytes}
use Rattle.bep_answer.specs.Firm.{IsFirmAnswerOfBytes}
use Rattle.bep_answer.specs.UnderWinners.{IsAnswerUnderWinnersOfBytes, IsFirmAnswerUnderWinnersOfBytes, IsReportUnder}
use Rattle.bep_answer.specs.declared.outcome.Certified.{Certified}
use Rattle.bep_answer.specs.declared.outcome.Certified.TheVariants.{Written}
use Rattle.bep_answer.specs.declared.outcome.Firmness.{Firmness}
use Rattle.bep_answer.specs.declared.outcome.Outcome.{Outcome}

-- the bytes of a document have one audit at most: one outcome, and one text
abbrev pub AuditIsUnique : Type 0
AuditIsUnique = (bytes : List ℕ) (one other : Outcome) (text more : List ℕ) →
    IsAnswerOfBytes bytes one text → IsAnswerOfBytes bytes other more → (one ≡ other) × (text ≡ more)

-- and one at most where firm is asked for
abbrev pub FirmAuditIsUnique : Type 0
FirmAuditIsUnique = (bytes : List ℕ) (one other : Firmness) (text more : List ℕ) →
    IsFirmAnswerOfBytes bytes one text → IsFirmAnswerOfBytes bytes other more → (one ≡ other) × (text ≡ more)

-- a cut has one answer at most where its certificate is asked for in a document of a version
abbrev pub CutAnswerIsUnique : Type 0
CutAnswerIsUnique = (version : DocVersion) (cut : CutParts) (one other : Certified) (text more : List ℕ) →
    IsCertificate version cut one text → IsCertificate version cut other more → (one ≡ other) × (text ≡ more)

-- and so have the bytes of a document
abbrev pub DocumentAnswerIsUnique : Type 0
DocumentAnswerIsUnique = (bytes : List ℕ) (one other : Certified) (text more : List ℕ) →
    IsCertifiedOfBytes bytes one text → IsCertifiedOfBytes bytes other more → (one ≡ other) × (text ≡ more)

-- ---- under the winners of the cut

-- a cut has one list of winners at most, or none, and one report under it
abbrev pub ReportUnderIsUnique : Type 0
ReportUnderIsUnique = (cut : CutParts) (rows others : Option (List Row)) (one other : Outcome) (text more : List ℕ) →
    IsReportUnder cut rows one text → IsReportUnder cut others other more → (rows ≡ others) × (one ≡ other) × (text ≡ more)

-- so the bytes of a document have one such answer at most
abbrev pub AnswerUnderWinnersIsUnique : Type 0
AnswerUnderWinnersIsUnique = (bytes : List ℕ) (one other : Outcome) (text more : List ℕ) →
    IsAnswerUnderWinnersOfBytes bytes one text → IsAnswerUnderWinnersOfBytes bytes other more → (one ≡ other) × (text ≡ more)

-- and one at most where firm is asked for
abbrev pub FirmAnswerUnderWinnersIsUnique : Type 0
FirmAnswerUnderWinnersIsUnique = (bytes : List ℕ) (one other : Firmness) (text more : List ℕ) →
    IsFirmAnswerUnderWinnersOfBytes bytes one text → IsFirmAnswerUnderWinnersOfBytes bytes other more → (one ≡ other) × (text ≡ more)

-- What is answered to a document under its cut's winners is what is answered to the document that is written where the cut's
-- certificate is asked for, unless that is longer than a document may be.
abbrev pub CheckAnswersAsUnderWinners : Type 0
CheckAnswersAsUnderWinners = (bytes json : List ℕ) (outcome : Outcome) (text : List ℕ) →
    IsCertifiedOfBytes bytes Written (json ++ newline) → length json ≤ most_bytes →
    IsAnswerOfBytes json outcome text → IsAnswerUnderWinnersOfBytes bytes outcome text

-- and so where firm is asked for
abbrev pub FirmAnswersAsUnderWinners : Type 0
FirmAnswersAsUnderWinners = (bytes json : List ℕ) (outcome : Firmness) (text : List ℕ) →
    IsCertifiedOfBytes bytes Written (json ++ newline) → length json ≤ most_bytes →
    IsFirmAnswerOfBytes json outcome text → IsFirmAnswerUnderWinnersOfBytes bytes outcome text
