use Rattle.bep_converge.proofs.AllStay.{all_stay_lem}
use Rattle.bep_converge.proofs.arrival.all_stay.Goals as goal

pub returns : goal.returns
returns c = all_stay_lem c.prevailing_is_unique.ensures c.end_is_firm.ensures
