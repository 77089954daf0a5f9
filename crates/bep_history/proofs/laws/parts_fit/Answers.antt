use Rattle.bep_history.proofs.PartsFit.{parts_fit_lem}
use Rattle.bep_history.proofs.laws.parts_fit.Goals as goal

pub returns : goal.returns
returns c = parts_fit_lem c.faultless_logs_agree.ensures c.faultless_logs_merge.ensures.merged
