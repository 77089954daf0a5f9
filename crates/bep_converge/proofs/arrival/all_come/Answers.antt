use Rattle.bep_converge.proofs.AllCome.{all_come_lem}
use Rattle.bep_converge.proofs.arrival.all_come.Goals as goal

pub returns : goal.returns
returns c = all_come_lem c.prevailing_is_unique.ensures c.bring_brings.ensures c.bring_keeps.ensures c.steps_keep_sound.ensures c.prevailing_goes_on.ensures
