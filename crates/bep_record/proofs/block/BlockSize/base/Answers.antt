use Rattle.bep_record.proofs.BlockSizeFacts.{base_is_of_nothing}
use Rattle.bep_record.proofs.block.BlockSize.base.Goals as goal

pub invariant_of-result : goal.invariant_of-result
invariant_of-result c = (0, base_is_of_nothing)
