-- What the program answers where the cut of a document is certified and audited under that certificate at once, and what it
-- has written after it (this project's profile).
use Rattle.std.specs.Prelude.{◌≡◌, ◌⊎◌, ℕ, List, Option, Some, None}
use Rattle.bep_audit.specs.Certifier.{IsNeverSettled}
use Rattle.bep_document.specs.Reading.{Reading, Read, Refused}
use Rattle.bep_json.specs.declared.version.DocVersion.{DocVersion}
use Rattle.bep_model.specs.FirmVerdict as firm_verdicts
use Rattle.bep_model.specs.Settled.{IsListOfWinners}
use Rattle.bep_model.specs.Tables.{Folder, FileName}
use Rattle.bep_model.specs.Verdict as verdicts
use Rattle.bep_model.specs.WithoutWinner.{IsFirstWithoutWinner}
use Rattle.bep_model.specs.declared.reason.Reason.TheVariants.{NotWinner}
use Rattle.bep_model.specs.declared.row.Row.{Row}
use Rattle.bep_report.specs.Input.{IsRead}
use Rattle.bep_report.specs.Report.{firm_report_text, report_text}
use Rattle.bep_tables.specs.Cut.{tables_of}
use Rattle.bep_tables.specs.declared.cut.CutParts.{CutParts}
use Rattle.bep_cut_document.specs.Written.{cut_of_document}
use Rattle.bep_answer.specs.Answer.{IsReport, TellsSettled, fault_text}
use Rattle.bep_answer.specs.Firm.{IsFirmReport, TellsFirm}
use Rattle.bep_answer.specs.declared.outcome.Firmness.{Firmness}
use Rattle.bep_answer.specs.declared.outcome.Firmness.TheVariants as firmness
use Rattle.bep_answer.specs.declared.outcome.Outcome.{Outcome}
use Rattle.bep_answer.specs.declared.outcome.Outcome.TheVariants as outcomes

-- it is the cut's first known name without a winner, and so the cut is settled for no list of rows
pub record IsUnwon (cut : CutParts) (folder : Folder) (name : FileName) : Type 0 where
  pub without : IsFirstWithoutWinner (tables_of cut) folder name
  pub never_settled : IsNeverSettled (tables_of cut)

-- ---- whether it is settled

-- the cut is reported under these rows, which are the one list of its winners
pub record IsReportOfWon (cut : CutParts) (rows : List Row) (outcome : Outcome) (text : List ℕ) : Type 0 where
  pub winners : IsListOfWinners (tables_of cut) rows
  pub report : IsReport cut rows outcome text

-- the cut's first known name without a winner is reported
pub record IsReportOfUnwon (cut : CutParts) (outcome : Outcome) (text : List ℕ) : Type 0 where
  pub folder : Folder
  pub name : FileName
  pub unwon : IsUnwon cut folder name
  pub told : outcome ≡ outcomes.NotSettled
  pub reported : text ≡ report_text cut (verdicts.Not NotWinner folder name None)

-- the cut is reported under the list of its winners, if it has one
abbrev pub IsReportUnder : CutParts → Option (List Row) → Outcome → List ℕ → Type 0
IsReportUnder cut (Some rows) outcome text = IsReportOfWon cut rows outcome text
IsReportUnder cut None outcome text = IsReportOfUnwon cut outcome text

-- the same, whether it has one or not
abbrev pub IsReportUnderWinners : CutParts → Outcome → List ℕ → Type 0
IsReportUnderWinners cut outcome text = (rows : Option (List Row)) × IsReportUnder cut rows outcome text

-- the outcome and the text for what a document says of its cut: that, in either version, or the fault for which it is refused
abbrev pub IsAnswerUnderWinners : Reading (DocVersion × CutParts) → Outcome → List ℕ → Type 0
IsAnswerUnderWinners (Read said) outcome text = IsReportUnderWinners said.1 outcome text
IsAnswerUnderWinners (Refused fault) outcome text = (outcome ≡ outcomes.Refused) × (text ≡ fault_text fault)

-- the same of the bytes of a document
abbrev pub IsAnswerUnderWinnersOfBytes : List ℕ → Outcome → List ℕ → Type 0
IsAnswerUnderWinnersOfBytes bytes outcome text = IsAnswerUnderWinners (cut_of_document bytes) outcome text

-- it says a cut that is settled under the list of its winners: so it stays
pub record TellsSettledUnderWinners (reading : Reading (DocVersion × CutParts)) : Type 0 where
  pub version : DocVersion
  pub cut : CutParts
  pub rows : List Row
  pub says : reading ≡ Read (version, cut)
  pub winners : IsListOfWinners (tables_of cut) rows
  pub settled : TellsSettled (Read (cut, rows))

-- the bytes that were read say so
pub record SaysSettledUnderWinners (unread left : Option (List ℕ)) : Type 0 where
  pub bytes : List ℕ
  pub read : IsRead unread left bytes
  pub reading : TellsSettledUnderWinners (cut_of_document bytes)

-- ---- whether it is firm

-- the cut is reported under the one list of its winners
pub record IsFirmReportOfWon (cut : CutParts) (outcome : Firmness) (text : List ℕ) : Type 0 where
  pub rows : List Row
  pub winners : IsListOfWinners (tables_of cut) rows
  pub report : IsFirmReport cut rows outcome text

-- the cut's first known name without a winner is reported
pub record IsFirmReportOfUnwon (cut : CutParts) (outcome : Firmness) (text : List ℕ) : Type 0 where
  pub folder : Folder
  pub name : FileName
  pub unwon : IsUnwon cut folder name
  pub told : outcome ≡ firmness.NotFirm
  pub reported : text ≡ firm_report_text cut (firm_verdicts.Unsettled NotWinner folder name None)

-- the cut is reported under the list of its winners, if it has one
abbrev pub IsFirmReportUnder : CutParts → Firmness → List ℕ → Type 0
IsFirmReportUnder cut outcome text = IsFirmReportOfWon cut outcome text ⊎ IsFirmReportOfUnwon cut outcome text

-- the outcome and the text for what a document says of its cut: that, or the fault for which it is refused
abbrev pub IsFirmAnswerUnderWinners : Reading (DocVersion × CutParts) → Firmness → List ℕ → Type 0
IsFirmAnswerUnderWinners (Read said) outcome text = IsFirmReportUnder said.1 outcome text
IsFirmAnswerUnderWinners (Refused fault) outcome text = (outcome ≡ firmness.Refused) × (text ≡ fault_text fault)

-- the same of the bytes of a document
abbrev pub IsFirmAnswerUnderWinnersOfBytes : List ℕ → Firmness → List ℕ → Type 0
IsFirmAnswerUnderWinnersOfBytes bytes outcome text = IsFirmAnswerUnderWinners (cut_of_document bytes) outcome text

-- it says a cut that is firm under the list of its winners: so it stays
pub record TellsFirmUnderWinners (reading : Reading (DocVersion × CutParts)) : Type 0 where
  pub version : DocVersion
  pub cut : CutParts
  pub rows : List Row
  pub says : reading ≡ Read (version, cut)
  pub winners : IsListOfWinners (tables_of cut) rows
  pub firm : TellsFirm (Read (cut, rows))

-- the bytes that were read say so
pub record SaysFirmUnderWinners (unread left : Option (List ℕ)) : Type 0 where
  pub bytes : List ℕ
  pub read : IsRead unread left bytes
  pub reading : TellsFirmUnderWinners (cut_of_document bytes)
