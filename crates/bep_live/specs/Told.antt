-- What was told of a scenario whose cluster goes on in threads, by the exit status (this project's profile).
use Rattle.std.specs.Prelude.{ℕ, List, Option, Result}
use Rattle.bep_answer.specs.Exchange.{IsWhole}
use Rattle.bep_answer.specs.Heard.{IsHeardAs}
use Rattle.bep_answer.specs.Status.{IsToldAs, certified_status_of, status_of}
use Rattle.bep_answer.specs.declared.exchanging.Beside.{Beside}
use Rattle.bep_answer.specs.declared.person.Said.{Said}
use Rattle.bep_report.specs.declared.error.ReportError.{ReportError}
use Rattle.bep_live.specs.Lived.{IsLiveEndOfBytes, IsLiveOfBytes}

-- a scenario was run and went on in threads, or was refused
abbrev pub IsLiveTold : Option (List ℕ) → Option (List ℕ) → Option (List ℕ) → Option (List ℕ) → ℕ → Type 0
IsLiveTold = IsToldAs IsLiveOfBytes status_of

-- the document of the cut that was taken then was written, or the scenario refused
abbrev pub IsLiveEndTold : Option (List ℕ) → Option (List ℕ) → Option (List ℕ) → Option (List ℕ) → ℕ → Type 0
IsLiveEndTold = IsToldAs IsLiveEndOfBytes certified_status_of

-- a person was told what stands beside the very answer that was written, or why there is none
abbrev pub IsLiveHeard : {O : Type 0} → (Result O ReportError → ℕ) → (Option Beside → List ℕ → O → List ℕ → Type 0) → Option (List ℕ) → Option (List ℕ) → Option (List ℕ) → Option (List ℕ) → Option (List Said) → Option (List Said) → ℕ → Type 0
IsLiveHeard status_after With unread left held now = IsHeardAs status_after (λ outcome beside. IsWhole (With beside) unread left held now outcome)
