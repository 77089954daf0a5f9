use Rattle.bep_machine.proofs.StepHalves.{step_has_halves_lem}
use Rattle.bep_machine.proofs.halves.step_has_halves.Goals as goal

pub returns : goal.returns
returns c = step_has_halves_lem
