use Rattle.bep_converge.proofs.CutDown.{all_come_from_cuts_lem}
use Rattle.bep_converge.proofs.cut.all_come_from_cuts.Goals as goal

pub returns : goal.returns
returns c = all_come_from_cuts_lem c.cuts_come_down.ensures c.all_come.ensures c.cuts_have_hashes.ensures c.prevailing_is_unique.ensures c.prevailing_goes_on.ensures
