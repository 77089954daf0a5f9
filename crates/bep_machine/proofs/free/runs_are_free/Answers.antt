use Rattle.bep_machine.proofs.FreeSteps.{runs_are_free_lem}
use Rattle.bep_machine.proofs.free.runs_are_free.Goals as goal

pub returns : goal.returns
returns c = runs_are_free_lem c.steps_keep_sound.ensures c.steps_are_free.ensures
