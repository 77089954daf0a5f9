use Rattle.bep_model.proofs.FirmVerdicts.{firm_verdict_is_unique_lem}
use Rattle.bep_model.proofs.laws.firm_verdict_is_unique.Goals as goal

pub returns : goal.returns
returns c = firm_verdict_is_unique_lem
