use Rattle.bep_scenario.proofs.EmptyStores.{scenarios_begin_empty}
use Rattle.bep_scenario.proofs.laws.scenarios_begin_empty.Goals as goal

pub returns : goal.returns
returns c = scenarios_begin_empty
