-- What the program answers where it is asked whether the cut of a document is firm, and what it has written after it.
use Rattle.std.specs.Prelude.{◌≡◌, ℕ, List, Option}
use Rattle.bep_document.specs.Reading.{Reading, Read, Refused}
use Rattle.bep_model.specs.declared.row.Row.{Row}
use Rattle.bep_model.specs.Firm.{IsFirm, StaysFirm}
use Rattle.bep_model.specs.FirmVerdict as verdicts
use Rattle.bep_machine.specs.FreeLaws.{FirmStaysPut}
use Rattle.bep_origin.specs.FromCut.{HasCluster}
use Rattle.bep_tables.specs.declared.cut.CutParts.{CutParts}
use Rattle.bep_tables.specs.Cut.{tables_of}
use Rattle.bep_cut_document.specs.Written.{check_of}
use Rattle.bep_report.specs.Input.{IsRead}
use Rattle.bep_report.specs.Report.{firm_report_text}
use Rattle.bep_answer.specs.Answer.{TellsSettled, fault_text}
use Rattle.bep_answer.specs.declared.outcome.Firmness.{Firmness}
use Rattle.bep_answer.specs.declared.outcome.Firmness.TheVariants as outcomes

-- the outcome of a verdict
abbrev pub firmness_of : verdicts.FirmVerdict → Firmness
firmness_of verdicts.Firm = outcomes.Firm
firmness_of (verdicts.Unsettled reason folder name device) = outcomes.NotFirm
firmness_of (verdicts.Loose reason folder name device) = outcomes.NotFirm

-- The cut and the rows of a document have this verdict, and it is told. There is a sound cluster that has the cut's tables.
pub record IsFirmReport (cut : CutParts) (rows : List Row) (outcome : Firmness) (text : List ℕ) : Type 0 where
  pub from : HasCluster cut
  pub verdict : verdicts.FirmVerdict
  pub judged : verdicts.IsFirmVerdict (tables_of cut) rows verdict
  pub told : outcome ≡ firmness_of verdict
  pub reported : text ≡ firm_report_text cut verdict

-- the outcome and the text for what a document says: its report, or the fault for which it is refused
abbrev pub IsFirmAnswer : Reading (CutParts × List Row) → Firmness → List ℕ → Type 0
IsFirmAnswer (Read check) outcome text = IsFirmReport check.0 check.1 outcome text
IsFirmAnswer (Refused fault) outcome text = (outcome ≡ outcomes.Refused) × (text ≡ fault_text fault)

-- the same of the bytes of a document
abbrev pub IsFirmAnswerOfBytes : List ℕ → Firmness → List ℕ → Type 0
IsFirmAnswerOfBytes bytes outcome text = IsFirmAnswer (check_of bytes) outcome text

-- it says a cut and a certificate, and these are firm: so they stay, whatever free peers do, and after every list of further
-- steps of this project's peers without local edits; they are settled too
pub record TellsFirm (reading : Reading (CutParts × List Row)) : Type 0 where
  pub cut : CutParts
  pub rows : List Row
  pub says : reading ≡ Read (cut, rows)
  pub firm : IsFirm (tables_of cut) rows
  pub stays_firm : StaysFirm (tables_of cut) rows
  pub stays_put : FirmStaysPut (tables_of cut) rows
  pub settled : TellsSettled reading

-- the bytes that were read say so
pub record SaysFirm (unread left : Option (List ℕ)) : Type 0 where
  pub bytes : List ℕ
  pub read : IsRead unread left bytes
  pub reading : TellsFirm (check_of bytes)
