-- What a person is told beside an answer, or in place of one, and that it was said (this project's profile).
use Rattle.std.specs.Prelude.{◌≡◌, ◌++◌, ◌∷◌, ℕ, ⊤, List, [], Option, Some, None, Result, Ok, Err, IfOk}
use Rattle.bep_report.specs.declared.error.ReportError.{ReportError}
use Rattle.bep_answer.specs.Beside.{IsTelling}
use Rattle.bep_answer.specs.Status.{without_hint}
use Rattle.bep_answer.specs.declared.exchanging.Beside.{Beside}
use Rattle.bep_answer.specs.declared.person.Said.{Said}
use Rattle.bep_answer.specs.declared.person.Said.TheVariants as saying

-- where it is known what a person has heard, these were said, in this order, and nothing else was
abbrev pub Hears : Option (List Said) → Option (List Said) → List Said → Type 0
Hears None now said = ⊤
Hears (Some before) None said = ⊥
Hears (Some before) (Some after) said = after ≡ before ++ said

-- what is to be said beside an answer
abbrev pub said_beside : Option Beside → List Said
said_beside None = []
said_beside (Some beside) = saying.Beside beside ∷ []

-- what is to be said of an answer and what stands beside it, or where there is none
abbrev pub said_of : {O : Type 0} → Result (O × Option Beside) ReportError → List Said
said_of (Ok told) = said_beside told.1
said_of (Err error) = saying.Why error ∷ []

-- There was an answer, with beside it what this says, or there was none. The person was told what stood beside it, or why there is
-- none, and the status is the one after it.
pub record IsHeardAs {O : Type 0} (status_after : Result O ReportError → ℕ) (Tells : O → Option Beside → Type 0) (heard now : Option (List Said)) (status : ℕ) : Type 0 where
  pub answer : Result (O × Option Beside) ReportError
  pub told : status ≡ status_after (without_hint answer)
  pub tells : IfOk answer (λ told. Tells told.0 told.1)
  pub hears : Hears heard now (said_of answer)

-- the same where what stands beside it is told by the bytes of the document
abbrev pub IsHeard : {O : Type 0} → (Result O ReportError → ℕ) → (List ℕ → Option Beside → Type 0) → Option (List ℕ) → Option (List ℕ) → Option (List Said) → Option (List Said) → ℕ → Type 0
IsHeard status_after Tells unread left = IsHeardAs status_after (λ _. IsTelling Tells unread left)
