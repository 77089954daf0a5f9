use Rattle.bep_model.proofs.Winners.{same_winner}
use Rattle.bep_model.proofs.laws.winner_is_unique.Goals as goal

pub returns : goal.returns
returns c = same_winner c.choice_is_unique.ensures
