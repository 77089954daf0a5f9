use Rattle.bep_converge.proofs.CutHashes.{cuts_have_hashes_lem}
use Rattle.bep_converge.proofs.steps.cuts_have_hashes.Goals as goal

pub returns : goal.returns
returns c = cuts_have_hashes_lem
