use Rattle.bep_converge.proofs.StepKept.{steps_keep_prevailing_lem}
use Rattle.bep_converge.proofs.laws.steps_keep_prevailing.Goals as goal

pub returns : goal.returns
returns c = steps_keep_prevailing_lem
