use Rattle.bep_model.proofs.FirmVerdicts.{firm_is_faultless_lem}
use Rattle.bep_model.proofs.laws.firm_is_faultless.Goals as goal

pub returns : goal.returns
returns c = firm_is_faultless_lem
