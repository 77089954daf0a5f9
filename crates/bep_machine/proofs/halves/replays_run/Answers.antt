use Rattle.bep_machine.proofs.Replays.{replays_run_lem}
use Rattle.bep_machine.proofs.halves.replays_run.Goals as goal

pub returns : goal.returns
returns c = replays_run_lem c.halves_make_the_step.ensures
