use Rattle.bep_converge.proofs.CutDown.{cuts_come_down_lem}
use Rattle.bep_converge.proofs.cut.cuts_come_down.Goals as goal

pub returns : goal.returns
returns c = cuts_come_down_lem c.steps_keep_sound.ensures c.cuts_have_hashes.ensures c.prevailing_goes_on.ensures
