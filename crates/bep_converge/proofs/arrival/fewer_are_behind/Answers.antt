use Rattle.bep_converge.proofs.AllCome.{fewer_are_behind_lem}
use Rattle.bep_converge.proofs.arrival.fewer_are_behind.Goals as goal

pub returns : goal.returns
returns c = fewer_are_behind_lem c.prevailing_is_unique.ensures c.bring_keeps.ensures c.steps_keep_sound.ensures
