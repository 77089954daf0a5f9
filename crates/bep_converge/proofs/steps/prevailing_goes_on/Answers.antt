use Rattle.bep_converge.proofs.StepsOrderly.{prevailing_goes_on_lem}
use Rattle.bep_converge.proofs.steps.prevailing_goes_on.Goals as goal

pub returns : goal.returns
returns c = prevailing_goes_on_lem c.runs_are_orderly.ensures c.runs_keep_prevailing.ensures
