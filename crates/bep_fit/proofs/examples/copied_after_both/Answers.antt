use Rattle.bep_fit.proofs.SmallLogs.{fit_after_both}
use Rattle.bep_fit.proofs.examples.copied_after_both.Goals as goal

pub returns : goal.returns
returns c = fit_after_both
