use Rattle.bep_converge.proofs.StepsOrderly.{runs_are_orderly_lem}
use Rattle.bep_converge.proofs.steps.runs_are_orderly.Goals as goal

pub returns : goal.returns
returns c = runs_are_orderly_lem c.steps_keep_sound.ensures c.steps_are_orderly.ensures c.steps_keep_hashes.ensures
