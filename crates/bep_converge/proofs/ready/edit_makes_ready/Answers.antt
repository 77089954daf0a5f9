use Rattle.bep_converge.proofs.OneReady.{edit_makes_ready_lem}
use Rattle.bep_converge.proofs.ready.edit_makes_ready.Goals as goal

pub returns : goal.returns
returns c = edit_makes_ready_lem c.steps_keep_sound.ensures c.steps_keep_hashes.ensures c.edit_makes_top.ensures.makes
