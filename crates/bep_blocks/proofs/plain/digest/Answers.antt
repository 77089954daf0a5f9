-- The one place where the hash's name is opened.
use Rattle.bep_blocks.specs.Plain.{hash_of}
use Rattle.bep_blocks.proofs.plain.digest.Goals as goal

pub returns : goal.returns
unfolding hash_of
returns c = c.digest.ensures
