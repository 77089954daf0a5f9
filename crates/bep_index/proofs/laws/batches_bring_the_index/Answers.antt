use Rattle.bep_index.proofs.LawFacts.{batches_bring_the_index, same_point_same_index}
use Rattle.bep_index.proofs.laws.batches_bring_the_index.Goals as goal

pub returns : goal.returns
returns c = record { up_to = batches_bring_the_index; whole = same_point_same_index }
