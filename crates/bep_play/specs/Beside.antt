-- What a person is told beside the answer to a scenario (this project's profile).
use Rattle.std.specs.Prelude.{ℕ, List, Option}
use Rattle.bep_answer.specs.Beside.{AreLines, IsHintOfRefused, IsHintOn}
use Rattle.bep_answer.specs.declared.exchanging.Beside.{Beside}
use Rattle.bep_document.specs.Reading.{Reading, Read, Refused}
use Rattle.bep_hints.specs.declared.members.Expected.TheVariants.{Scenario}
use Rattle.bep_peer.specs.network.Network.{Network}
use Rattle.bep_scenario.specs.Scenario.{Said, scenario_of}
use Rattle.bep_play.specs.Played.{EndsAt}

-- beside the report on its end nothing is told, and a hint where it is refused
abbrev pub TellsOfRun : List ℕ → Option Beside → Type 0
TellsOfRun bytes = IsHintOfRefused Scenario (scenario_of bytes)

-- the steps of the scenario are made, and these are the lines of those that are refused
pub record TellsSteps (scenario : Said) (beside : Option Beside) : Type 0 where
  pub last : Network
  pub told : List ℕ
  pub leads : EndsAt scenario last told
  pub lines : AreLines told beside

-- beside the document of its end the refused steps are told, and a hint where it is refused
abbrev pub TellsOfEndOf : Reading Said → Option Beside → Type 0
TellsOfEndOf (Read scenario) beside = TellsSteps scenario beside
TellsOfEndOf (Refused fault) beside = IsHintOn Scenario fault beside

-- the same of the bytes of a document
abbrev pub TellsOfEnd : List ℕ → Option Beside → Type 0
TellsOfEnd bytes beside = TellsOfEndOf (scenario_of bytes) beside
