use Rattle.bep_fit.proofs.StaysPut.{settled_logs_stay_put_lem}
use Rattle.bep_fit.proofs.one_run.settled_logs_stay_put.Goals as goal

pub returns : goal.returns
returns c = settled_logs_stay_put_lem c.fitting_logs_are_one_run.ensures c.settled_stays_put.ensures
