-- What the program answers where it is asked whether the cut of a document converges, and what it has written after it.
use Rattle.std.specs.Prelude.{◌≡◌, ℕ, List, Option, All, map}
use Rattle.bep_document.specs.Reading.{Reading, Read, Refused}
use Rattle.bep_json.specs.declared.version.DocVersion.{DocVersion}
use Rattle.bep_origin.specs.FromCut.{HasCluster}
use Rattle.bep_tables.specs.declared.cut.CutParts.{CutParts}
use Rattle.bep_tables.specs.Cut.{tables_of}
use Rattle.bep_cut_document.specs.Written.{cut_of_document}
use Rattle.bep_report.specs.Input.{IsRead}
use Rattle.bep_answer.specs.Answer.{fault_text}
use Rattle.bep_converge.specs.Prevails.{AllPrevail}
use Rattle.bep_converge.specs.ConvergeVerdict as verdicts
use Rattle.bep_converge.specs.Laws.{GoesOnInRuns}
use Rattle.bep_converge_check.specs.Progress.{Progress, IsProgress}
use Rattle.bep_converge_answer.specs.Lines.{converge_report_text}
use Rattle.bep_converge_answer.specs.declared.outcome.Convergence.{Convergence}
use Rattle.bep_converge_answer.specs.declared.outcome.Convergence.TheVariants as outcomes

-- the outcome of a verdict
abbrev pub convergence_of : verdicts.ConvergeVerdict → Convergence
convergence_of verdicts.Converging = outcomes.Converging
convergence_of (verdicts.NotConverging reason folder name device) = outcomes.NotConverging

-- of each folder of the cut, in their order, it is told how far its names have come
pub record TellsProgress (cut : CutParts) (told : List Progress) : Type 0 where
  pub folders : map (λ one. one.folder) told ≡ map (λ shared. shared.folder) cut.folders
  pub holds : All (IsProgress (tables_of cut)) told

-- The cut of a document has this verdict, and it is told, and how far the names of its folders have come. There is a sound
-- cluster that has the cut's tables.
pub record IsConvergeReport (cut : CutParts) (outcome : Convergence) (text : List ℕ) : Type 0 where
  pub from : HasCluster cut
  pub verdict : verdicts.ConvergeVerdict
  pub judged : verdicts.IsConvergeVerdict (tables_of cut) verdict
  pub told : outcome ≡ convergence_of verdict
  pub progress : List Progress
  pub counted : TellsProgress cut progress
  pub reported : text ≡ converge_report_text verdict progress

-- the outcome and the text for what a document says: its report, or the fault for which it is refused
abbrev pub IsConvergeAnswer : Reading (DocVersion × CutParts) → Convergence → List ℕ → Type 0
IsConvergeAnswer (Read said) outcome text = IsConvergeReport said.1 outcome text
IsConvergeAnswer (Refused fault) outcome text = (outcome ≡ outcomes.Refused) × (text ≡ fault_text fault)

-- the same of the bytes of a document, whose certificate may be missing and isn't looked at
abbrev pub IsConvergeAnswerOfBytes : List ℕ → Convergence → List ℕ → Type 0
IsConvergeAnswerOfBytes bytes outcome text = IsConvergeAnswer (cut_of_document bytes) outcome text

-- It says a cut of which all known names prevail: so they go on, after every list of further steps of this project's peers
-- without local edits and index resets. That is said of every sound cluster with the cut's tables, and there is one.
pub record TellsConverging (reading : Reading (DocVersion × CutParts)) : Type 0 where
  pub version : DocVersion
  pub cut : CutParts
  pub says : reading ≡ Read (version, cut)
  pub from : HasCluster cut
  pub all : AllPrevail (tables_of cut)
  pub goes_on : GoesOnInRuns (tables_of cut)

-- the bytes that were read say so
pub record SaysConverging (unread left : Option (List ℕ)) : Type 0 where
  pub bytes : List ℕ
  pub read : IsRead unread left bytes
  pub reading : TellsConverging (cut_of_document bytes)
