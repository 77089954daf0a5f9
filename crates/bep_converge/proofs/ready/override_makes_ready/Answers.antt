use Rattle.bep_converge.proofs.OneReady.{override_makes_ready_lem}
use Rattle.bep_converge.proofs.ready.override_makes_ready.Goals as goal

pub returns : goal.returns
returns c = override_makes_ready_lem c.steps_keep_sound.ensures c.steps_keep_hashes.ensures c.override_makes_top.ensures
