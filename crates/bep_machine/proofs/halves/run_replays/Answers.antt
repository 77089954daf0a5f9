use Rattle.bep_machine.proofs.Replays.{run_replays_lem}
use Rattle.bep_machine.proofs.halves.run_replays.Goals as goal

pub returns : goal.returns
returns c = run_replays_lem c.step_has_halves.ensures
