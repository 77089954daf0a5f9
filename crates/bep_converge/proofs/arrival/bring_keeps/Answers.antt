use Rattle.bep_converge.proofs.BringKept.{bring_keeps_lem}
use Rattle.bep_converge.proofs.arrival.bring_keeps.Goals as goal

pub returns : goal.returns
returns c = bring_keeps_lem c.steps_keep_sound.ensures c.steps_keep_hashes.ensures c.prevailing_goes_on.ensures
