use Rattle.bep_model.proofs.StaysFacts.{calm_stays_lem}
use Rattle.bep_model.proofs.laws.calm_stays.Goals as goal

pub returns : goal.returns
returns c = calm_stays_lem c.choice_is_unique.ensures
