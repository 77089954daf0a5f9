use Rattle.bep_machine.proofs.CalmStep.{quiet_steps_keep_calm_lem}
use Rattle.bep_machine.proofs.calm.quiet_steps_keep_calm.Goals as goal

pub returns : goal.returns
returns c = quiet_steps_keep_calm_lem c.batch_records_are_found.ensures.found c.batch_records_are_found.ensures.among c.cut_is_of_one_length.ensures
