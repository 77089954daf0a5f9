use Rattle.bep_converge.proofs.StepsOrderly.{steps_are_orderly_lem}
use Rattle.bep_converge.proofs.steps.steps_are_orderly.Goals as goal

pub returns : goal.returns
returns c = steps_are_orderly_lem c.steps_are_free.ensures c.cut_is_of_one_length.ensures
