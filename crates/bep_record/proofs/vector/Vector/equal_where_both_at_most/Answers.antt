use Rattle.bep_record.proofs.VectorFacts.{same_from_IsAtMost}
use Rattle.bep_record.proofs.vector.Vector.equal_where_both_at_most.Goals as goal

pub returns : goal.returns
returns c = same_from_IsAtMost
