-- The scenario that the bytes of a document say (this project's profile).
use Rattle.std.specs.Prelude.{◌≡◌, ℕ, List, All, map}
use Rattle.std.specs.FinMap.{empty}
use Rattle.std.specs.Map.{values_of}
use Rattle.bep_machine.specs.declared.step.Step.{Step}
use Rattle.bep_json.specs.declared.version.DocVersion.{DocVersion}
use Rattle.bep_document.specs.Reading.{Reading, Read, ◌>>=◌}
use Rattle.bep_scenario.specs.declared.parts.ScenarioParts.{ScenarioParts}
use Rattle.bep_scenario.specs.declared.scenario.Scenario.{Scenario}
use Rattle.bep_scenario.specs.declared.lazy.LazyScenario.{LazyScenario}
use Rattle.bep_scenario.specs.Configured.{Start, start_of}
use Rattle.bep_scenario.specs.Faultless.{step_of}
use Rattle.bep_scenario.specs.Reading.{reading_of}

-- what a scenario says: its document's version, with which configuration it begins, and its steps
pub record Said : Type 0 where
  pub version : DocVersion
  pub config : Start
  pub steps : List Step

abbrev pub said : Scenario → Said
said scenario = record { version = scenario.version; config = scenario.config; steps = scenario.steps.items }

-- the same, where the steps are made one at a time: those that come out, in this order
abbrev pub said_lazily : LazyScenario → Said
said_lazily scenario = record { version = scenario.version; config = scenario.config; steps = scenario.steps }

-- the document's version, the cluster's configuration, its stores empty, and its steps
abbrev pub made_of : ScenarioParts → Said
made_of parts = record { version = parts.cluster.version; config = start_of parts.cluster; steps = map step_of parts.steps }

-- what the bytes of a document say
abbrev pub scenario_of : List ℕ → Reading Said
scenario_of bytes = do
  parts ← reading_of bytes
  Read (made_of parts)

-- each store of the configuration holds nothing
abbrev pub BeginsEmpty : Start → Type 0
BeginsEmpty config = All (λ sharing. sharing.store ≡ empty) (values_of config.shares)

-- so begins what is read
abbrev pub ScenariosBeginEmpty : Type 0
ScenariosBeginEmpty = (bytes : List ℕ) (scenario : Said) → scenario_of bytes ≡ Read scenario → BeginsEmpty scenario.config
