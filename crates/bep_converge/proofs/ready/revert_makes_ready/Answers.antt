use Rattle.bep_converge.proofs.OneReady.{revert_makes_ready_lem}
use Rattle.bep_converge.proofs.ready.revert_makes_ready.Goals as goal

pub returns : goal.returns
returns c = revert_makes_ready_lem c.steps_keep_sound.ensures c.steps_keep_hashes.ensures c.revert_lets_in.ensures
