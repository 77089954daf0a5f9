use Rattle.bep_scenario.proofs.StartFacts.{may_start}
use Rattle.bep_scenario.proofs.laws.faultless_scenarios_start.Goals as goal

pub returns : goal.returns
returns c = may_start
