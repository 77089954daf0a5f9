use Rattle.bep_fit.proofs.OneList.{logs_fit_exactly_lem}
use Rattle.bep_fit.proofs.merge.logs_fit_exactly.Goals as goal

pub returns : goal.returns
returns c = logs_fit_exactly_lem
