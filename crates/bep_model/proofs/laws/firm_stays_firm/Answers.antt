use Rattle.bep_model.proofs.FirmFacts.{firm_stays_firm_lem}
use Rattle.bep_model.proofs.laws.firm_stays_firm.Goals as goal

pub returns : goal.returns
returns c = firm_stays_firm_lem
