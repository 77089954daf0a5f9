use Rattle.bep_machine.proofs.FreeSteps.{firm_stays_put_lem}
use Rattle.bep_machine.proofs.free.firm_stays_put.Goals as goal

pub returns : goal.returns
returns c = firm_stays_put_lem c.runs_are_free.ensures c.firm_stays_firm.ensures
