use Rattle.bep_machine.proofs.OneOutcomeRuns.{runs_are_determined_lem}
use Rattle.bep_machine.proofs.determined.runs_are_determined.Goals as goal

pub returns : goal.returns
returns c = runs_are_determined_lem c.steps_are_determined.ensures c.steps_keep_sound.ensures
