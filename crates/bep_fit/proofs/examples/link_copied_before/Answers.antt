use Rattle.bep_fit.proofs.SmallLogs.{misfit_of_device}
use Rattle.bep_fit.proofs.examples.link_copied_before.Goals as goal

pub returns : goal.returns
returns c = misfit_of_device
