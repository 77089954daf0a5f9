use Rattle.bep_core.proofs.Reaching.{reached_is_gapless}
use Rattle.bep_core.proofs.laws.reached_is_gapless.Goals as goal

pub returns : goal.returns
returns c = reached_is_gapless c.steps_keep_sound.ensures c.runs_are_gapless.ensures.runs
