use Rattle.bep_blocks.proofs.HashesFacts.{hashes-tell}
use Rattle.bep_blocks.proofs.laws.hashes_tell_blocks.Goals as goal

pub returns : goal.returns
returns c = hashes-tell
