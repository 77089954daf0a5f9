-- What is read and written where a document is answered, for whatever is said of its bytes.
use Rattle.std.specs.Prelude.{ℕ, List, Option}
use Rattle.std.specs.Io.KnownBytes.{Appends, Keeps}
use Rattle.bep_report.specs.declared.error.ReportError.{ReportError}
use Rattle.bep_report.specs.declared.error.ReportError.TheVariants.{Memory}
use Rattle.bep_report.specs.declared.error.ReportError.TheVariants as faults
use Rattle.bep_report.specs.Input.{IsRead}
use Rattle.bep_report.specs.Output.{AppendsBeginning}

-- a document was read, its outcome was told and its text written, and nothing else
pub record IsWhole {O : Type 0} (Says : List ℕ → O → List ℕ → Type 0) (unread left held now : Option (List ℕ)) (outcome : O) : Type 0 where
  pub bytes : List ℕ
  pub read : IsRead unread left bytes
  pub text : List ℕ
  pub says : Says bytes outcome text
  pub written : Appends held now text

-- a document was read, and a beginning of its text written
pub record IsInPart {O : Type 0} (Says : List ℕ → O → List ℕ → Type 0) (unread left held now : Option (List ℕ)) : Type 0 where
  pub bytes : List ℕ
  pub read : IsRead unread left bytes
  pub outcome : O
  pub text : List ℕ
  pub says : Says bytes outcome text
  pub written : AppendsBeginning held now text

-- what is written where there is no answer: nothing after a read fault or want of memory, a beginning of the text after
-- a write fault
abbrev pub IsEndedEarly : {O : Type 0} → (List ℕ → O → List ℕ → Type 0) → Option (List ℕ) → Option (List ℕ) → Option (List ℕ) → Option (List ℕ) → ReportError → Type 0
IsEndedEarly Says unread left held now Memory = Keeps held now
IsEndedEarly Says unread left held now faults.Read = Keeps held now
IsEndedEarly Says unread left held now faults.Write = IsInPart Says unread left held now
