use Rattle.bep_converge.proofs.OverrideTops.{override_makes_top_lem}
use Rattle.bep_converge.proofs.after.override_makes_top.Goals as goal

pub returns : goal.returns
returns c = override_makes_top_lem c.choice_is_unique.ensures
