use Rattle.bep_machine.proofs.FreeSteps.{steps_are_free_lem}
use Rattle.bep_machine.proofs.free.steps_are_free.Goals as goal

pub returns : goal.returns
returns c = steps_are_free_lem c.batch_records_are_found.ensures.found c.batch_records_are_found.ensures.among
