use Rattle.bep_scenario.proofs.FaultlessFacts.{scenario_faultless}
use Rattle.bep_scenario.proofs.laws.scenarios_are_faultless.Goals as goal

pub returns : goal.returns
returns c = scenario_faultless
