use Rattle.std.proofs.Common.{Err, ap}
use Rattle.bep_scenario.proofs.FaultlessFacts.{scenario_faultless}
use Rattle.bep_scenario.proofs.StartFacts.{may_start}
use Rattle.bep_scenario.proofs.lazy.read_lazy_scenario.Goals as goal

-- what was read may start
pub unreachable-requires : goal.unreachable-requires
unreachable-requires c =
    let parts = c.in_ok-parts.parts in
    c.in-Err-ConfigBad.ensures.bad (ap Err c.in-Err-ConfigBad.field-0-is) (may_start parts (scenario_faultless c.args.bytes.now parts c.in_ok-parts.ensures))

pub steps_of-requires : goal.steps_of-requires
steps_of-requires c = (scenario_faultless c.args.bytes.now c.in_ok-parts.parts c.in_ok-parts.ensures).nodes
