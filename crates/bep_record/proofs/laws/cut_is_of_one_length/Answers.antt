use Rattle.bep_record.proofs.LengthFacts.{cut_is_of_one_length}
use Rattle.bep_record.proofs.laws.cut_is_of_one_length.Goals as goal

pub returns : goal.returns
returns c = cut_is_of_one_length
