-- The exit statuses of the program (this project's profile).
use Rattle.std.specs.Prelude.{◌≡◌, ℕ, List, Option, Result, Ok, Err, MatchResult}
use Rattle.bep_report.specs.declared.error.ReportError.{ReportError}
use Rattle.bep_report.specs.declared.error.ReportError.TheVariants.{Memory, Read, Write}
use Rattle.bep_answer.specs.Answer.{IsAnswerOfBytes}
use Rattle.bep_answer.specs.Certified.{IsCertifiedOfBytes}
use Rattle.bep_answer.specs.Exchange.{IsEndedEarly, IsWhole}
use Rattle.bep_answer.specs.Firm.{IsFirmAnswerOfBytes}
use Rattle.bep_answer.specs.Partial.{IsPartlyOfBytes}
use Rattle.bep_answer.specs.UnderWinners.{IsAnswerUnderWinnersOfBytes, IsFirmAnswerUnderWinnersOfBytes}
use Rattle.bep_answer.specs.declared.outcome.Certified.{Certified}
use Rattle.bep_answer.specs.declared.outcome.Certified.TheVariants as certificates
use Rattle.bep_answer.specs.declared.outcome.Firmness.{Firmness}
use Rattle.bep_answer.specs.declared.outcome.Firmness.TheVariants as firmness
use Rattle.bep_answer.specs.declared.outcome.Partial.{Partial}
use Rattle.bep_answer.specs.declared.outcome.Partial.TheVariants as partials
use Rattle.bep_answer.specs.declared.outcome.Outcome.{Outcome}
use Rattle.bep_answer.specs.declared.outcome.Outcome.TheVariants.{Settled, NotSettled, Refused}

-- the status after an answer, or where there is none
abbrev pub status_of : Result Outcome ReportError → ℕ
status_of (Ok Settled) = 0
status_of (Ok NotSettled) = 1
status_of (Ok Refused) = 2
status_of (Err Memory) = 4
status_of (Err Read) = 5
status_of (Err Write) = 5

-- the status after firm was asked for
abbrev pub firm_status_of : Result Firmness ReportError → ℕ
firm_status_of (Ok firmness.Firm) = 0
firm_status_of (Ok firmness.NotFirm) = 1
firm_status_of (Ok firmness.Refused) = 2
firm_status_of (Err Memory) = 4
firm_status_of (Err Read) = 5
firm_status_of (Err Write) = 5

-- the status after a certificate was asked for
abbrev pub certified_status_of : Result Certified ReportError → ℕ
certified_status_of (Ok certificates.Written) = 0
certified_status_of (Ok certificates.NoWinner) = 1
certified_status_of (Ok certificates.Refused) = 2
certified_status_of (Err Memory) = 4
certified_status_of (Err Read) = 5
certified_status_of (Err Write) = 5

-- the status after a certificate was asked for as far as there are winners
abbrev pub partial_status_of : Result Partial ReportError → ℕ
partial_status_of (Ok partials.Whole) = 0
partial_status_of (Ok partials.Part) = 6
partial_status_of (Ok partials.Refused) = 2
partial_status_of (Err Memory) = 4
partial_status_of (Err Read) = 5
partial_status_of (Err Write) = 5

-- the status where the words aren't understood, or ask for help
abbrev pub usage : ℕ
usage = 3

-- an answer without what a person is told beside it
abbrev pub without_hint : {O H : Type 0} → Result (O × H) ReportError → Result O ReportError
without_hint (Ok told) = Ok told.0
without_hint (Err error) = Err error

-- what was read was answered as this says, or it was cut short, and the status tells which
pub record IsToldAs {O : Type 0} (Says : List ℕ → O → List ℕ → Type 0) (status_after : Result O ReportError → ℕ) (unread left held now : Option (List ℕ)) (status : ℕ) : Type 0 where
  pub answer : Result O ReportError
  pub told : status ≡ status_after answer
  pub done : MatchResult answer (IsWhole Says unread left held now) (IsEndedEarly Says unread left held now)

-- a document was answered
abbrev pub IsTold : Option (List ℕ) → Option (List ℕ) → Option (List ℕ) → Option (List ℕ) → ℕ → Type 0
IsTold = IsToldAs IsAnswerOfBytes status_of

-- a document was answered where firm was asked for
abbrev pub IsFirmTold : Option (List ℕ) → Option (List ℕ) → Option (List ℕ) → Option (List ℕ) → ℕ → Type 0
IsFirmTold = IsToldAs IsFirmAnswerOfBytes firm_status_of

-- the cut of a document was certified and audited under that certificate
abbrev pub IsToldUnderWinners : Option (List ℕ) → Option (List ℕ) → Option (List ℕ) → Option (List ℕ) → ℕ → Type 0
IsToldUnderWinners = IsToldAs IsAnswerUnderWinnersOfBytes status_of

-- the same where firm was asked for
abbrev pub IsFirmToldUnderWinners : Option (List ℕ) → Option (List ℕ) → Option (List ℕ) → Option (List ℕ) → ℕ → Type 0
IsFirmToldUnderWinners = IsToldAs IsFirmAnswerUnderWinnersOfBytes firm_status_of

-- a certificate was written or refused
abbrev pub IsCertificateTold : Option (List ℕ) → Option (List ℕ) → Option (List ℕ) → Option (List ℕ) → ℕ → Type 0
IsCertificateTold = IsToldAs IsCertifiedOfBytes certified_status_of

-- a certificate was written as far as there are winners, or refused
abbrev pub IsPartTold : Option (List ℕ) → Option (List ℕ) → Option (List ℕ) → Option (List ℕ) → ℕ → Type 0
IsPartTold = IsToldAs IsPartlyOfBytes partial_status_of
