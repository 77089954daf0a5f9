use Rattle.bep_converge.proofs.HashesKept.{steps_keep_hashes_lem}
use Rattle.bep_converge.proofs.steps.steps_keep_hashes.Goals as goal

pub returns : goal.returns
returns c = steps_keep_hashes_lem
