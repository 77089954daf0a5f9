use Rattle.bep_fit.proofs.Faultless.{faultless_logs_agree_lem}
use Rattle.bep_fit.proofs.merge.faultless_logs_agree.Goals as goal

pub returns : goal.returns
returns c = faultless_logs_agree_lem
