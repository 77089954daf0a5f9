use Rattle.bep_machine.proofs.ThereReplayed.{replays_are_there_lem}
use Rattle.bep_machine.proofs.halves.replays_are_there.Goals as goal

pub returns : goal.returns
returns c = replays_are_there_lem c.halves_make_the_step.ensures c.steps_keep_sound.ensures
