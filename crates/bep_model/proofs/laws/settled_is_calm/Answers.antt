use Rattle.bep_model.proofs.CalmFacts.{settled_is_calm_lem}
use Rattle.bep_model.proofs.laws.settled_is_calm.Goals as goal

pub returns : goal.returns
returns c = settled_is_calm_lem
