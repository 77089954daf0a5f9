-- What the program answers to the bytes of a document, and what it has written after it.
use Rattle.std.specs.Prelude.{◌≡◌, ℕ, List, Option}
use Rattle.bep_document.specs.declared.fault.DocFault.{DocFault}
use Rattle.bep_document.specs.Fault.{number_of, name_of}
use Rattle.bep_document.specs.Reading.{Reading, Read, Refused}
use Rattle.bep_model.specs.declared.row.Row.{Row}
use Rattle.bep_model.specs.Settled.{IsSettled}
use Rattle.bep_model.specs.Verdict as verdicts
use Rattle.bep_machine.specs.Laws.{StaysPut, StaysSettled}
use Rattle.bep_origin.specs.FromCut.{HasCluster}
use Rattle.bep_tables.specs.declared.cut.CutParts.{CutParts}
use Rattle.bep_tables.specs.Cut.{tables_of}
use Rattle.bep_cut_document.specs.Written.{check_of}
use Rattle.bep_report.specs.Input.{IsRead}
use Rattle.bep_lines.specs.Lines.{refused_line}
use Rattle.bep_report.specs.Report.{report_text}
use Rattle.bep_answer.specs.declared.outcome.Outcome.{Outcome}
use Rattle.bep_answer.specs.declared.outcome.Outcome.TheVariants as outcomes

-- the outcome of a verdict
abbrev pub outcome_of : verdicts.Verdict → Outcome
outcome_of verdicts.Settled = outcomes.Settled
outcome_of (verdicts.Not reason folder name device) = outcomes.NotSettled

-- the line of a fault
abbrev pub fault_text : DocFault → List ℕ
fault_text fault = refused_line (number_of fault.fault) (name_of fault.fault) fault.folder fault.device fault.name

-- The cut and the rows of a document have this verdict, and it is told. There is a sound cluster that has the cut's tables.
pub record IsReport (cut : CutParts) (rows : List Row) (outcome : Outcome) (text : List ℕ) : Type 0 where
  pub from : HasCluster cut
  pub verdict : verdicts.Verdict
  pub judged : verdicts.IsVerdict (tables_of cut) rows verdict
  pub told : outcome ≡ outcome_of verdict
  pub reported : text ≡ report_text cut verdict

-- the outcome and the text for what a document says: its report, or the fault for which it is refused
abbrev pub IsAnswer : Reading (CutParts × List Row) → Outcome → List ℕ → Type 0
IsAnswer (Read check) outcome text = IsReport check.0 check.1 outcome text
IsAnswer (Refused fault) outcome text = (outcome ≡ outcomes.Refused) × (text ≡ fault_text fault)

-- the same of the bytes of a document
abbrev pub IsAnswerOfBytes : List ℕ → Outcome → List ℕ → Type 0
IsAnswerOfBytes bytes outcome text = IsAnswer (check_of bytes) outcome text

-- It says a cut and a certificate, and these are settled: so they stay, after every list of further steps without local
-- edits. That is said of every sound cluster with the cut's tables, and there is one.
pub record TellsSettled (reading : Reading (CutParts × List Row)) : Type 0 where
  pub cut : CutParts
  pub rows : List Row
  pub says : reading ≡ Read (cut, rows)
  pub from : HasCluster cut
  pub settled : IsSettled (tables_of cut) rows
  pub stays_put : StaysPut (tables_of cut) rows
  pub stays_settled : StaysSettled (tables_of cut) rows

-- the bytes that were read say so
pub record SaysSettled (unread left : Option (List ℕ)) : Type 0 where
  pub bytes : List ℕ
  pub read : IsRead unread left bytes
  pub reading : TellsSettled (check_of bytes)
