use Rattle.bep_model.proofs.Faultless.{settled_is_faultless_lem}
use Rattle.bep_model.proofs.laws.settled_is_faultless.Goals as goal

pub returns : goal.returns
returns c = settled_is_faultless_lem
