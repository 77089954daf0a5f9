use Rattle.bep_machine.proofs.HalfSteps.{halves_make_the_step_lem}
use Rattle.bep_machine.proofs.halves.halves_make_the_step.Goals as goal

pub returns : goal.returns
returns c = halves_make_the_step_lem
