use Rattle.bep_fit.proofs.SmallLogs.{misfit_of_round}
use Rattle.bep_fit.proofs.examples.one_has_new_base.Goals as goal

pub returns : goal.returns
returns c = misfit_of_round
