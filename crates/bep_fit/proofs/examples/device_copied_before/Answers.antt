use Rattle.bep_fit.proofs.SmallLogs.{misfit_of_link}
use Rattle.bep_fit.proofs.examples.device_copied_before.Goals as goal

pub returns : goal.returns
returns c = misfit_of_link
