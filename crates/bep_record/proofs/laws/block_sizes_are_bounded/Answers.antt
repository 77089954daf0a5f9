use Rattle.bep_record.proofs.BlockSizeFacts.{block_sizes_are_bounded}
use Rattle.bep_record.proofs.laws.block_sizes_are_bounded.Goals as goal

pub returns : goal.returns
returns c = block_sizes_are_bounded
