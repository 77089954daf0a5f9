use Rattle.bep_model.proofs.StaysFacts.{calm_is_settled_again_lem}
use Rattle.bep_model.proofs.laws.calm_is_settled_again.Goals as goal

pub returns : goal.returns
returns c = calm_is_settled_again_lem (λ chooser candidates. (c.choice_exists.ensures chooser candidates).1) c.choice_is_unique.ensures
