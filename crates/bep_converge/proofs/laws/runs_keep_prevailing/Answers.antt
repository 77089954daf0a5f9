use Rattle.bep_converge.proofs.RunKept.{runs_keep_prevailing_lem}
use Rattle.bep_converge.proofs.laws.runs_keep_prevailing.Goals as goal

pub returns : goal.returns
returns c = runs_keep_prevailing_lem
