-- What a person is told beside the answer to a scenario whose cluster goes on in threads (this project's profile).
use Rattle.std.specs.Prelude.{◌≡◌, ◌++◌, ℕ, List, Option}
use Rattle.bep_answer.specs.Answer.{fault_text}
use Rattle.bep_answer.specs.Beside.{AreLines, IsHintOn}
use Rattle.bep_answer.specs.declared.outcome.Certified.{Certified}
use Rattle.bep_answer.specs.declared.outcome.Certified.TheVariants as certificates
use Rattle.bep_answer.specs.declared.outcome.Outcome.{Outcome}
use Rattle.bep_answer.specs.declared.outcome.Outcome.TheVariants as outcomes
use Rattle.bep_answer.specs.declared.exchanging.Beside.{Beside}
use Rattle.bep_document.specs.Reading.{Reading, Read, Refused}
use Rattle.bep_hints.specs.declared.members.Expected.TheVariants.{Scenario}
use Rattle.bep_scenario.specs.Scenario.{Said, scenario_of}
use Rattle.bep_live.specs.Lines.{log_lines, run_line}
use Rattle.bep_live.specs.Lived.{IsLived, IsLivedTo}

-- The report on a run cut is written as `IsLived` says. Beside it stand the lines on the logs of that very run cut.
pub record IsLivedWith (scenario : Said) (outcome : Outcome) (text : List ℕ) (beside : Option Beside) : Type 0 where
  pub lived : IsLived scenario outcome text
  pub lines : AreLines (log_lines lived.verdict lived.run.logs) beside

-- the report with these lines beside it; or the fault for which the scenario is refused, with a hint
abbrev pub IsLiveBeside : Reading Said → Outcome → List ℕ → Option Beside → Type 0
IsLiveBeside (Read scenario) outcome text beside = IsLivedWith scenario outcome text beside
IsLiveBeside (Refused fault) outcome text beside = (outcome ≡ outcomes.Refused) × (text ≡ fault_text fault) × IsHintOn Scenario fault beside

-- the same of the bytes of a document
abbrev pub IsLiveWith : Option Beside → List ℕ → Outcome → List ℕ → Type 0
IsLiveWith beside bytes outcome text = IsLiveBeside (scenario_of bytes) outcome text beside

-- The document of a run cut's cut is written as `IsLivedTo` says. Beside it stand the lines of the steps that are refused, of the
-- verdict on the logs of that very run cut, and on these logs.
pub record IsLivedBeside (scenario : Said) (outcome : Certified) (text : List ℕ) (beside : Option Beside) : Type 0 where
  pub lived : IsLivedTo scenario outcome text
  pub lines : AreLines ((lived.told ++ run_line lived.verdict) ++ log_lines lived.verdict lived.run.logs) beside

-- the document with these lines beside it; or the fault for which the scenario is refused, with a hint
abbrev pub IsLiveEndBeside : Reading Said → Certified → List ℕ → Option Beside → Type 0
IsLiveEndBeside (Read scenario) outcome text beside = IsLivedBeside scenario outcome text beside
IsLiveEndBeside (Refused fault) outcome text beside = (outcome ≡ certificates.Refused) × (text ≡ fault_text fault) × IsHintOn Scenario fault beside

-- the same of the bytes of a document
abbrev pub IsLiveEndWith : Option Beside → List ℕ → Certified → List ℕ → Type 0
IsLiveEndWith beside bytes outcome text = IsLiveEndBeside (scenario_of bytes) outcome text beside
