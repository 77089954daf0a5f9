use Rattle.std.proofs.Common.{refl}
use Rattle.bep_record.specs.Block.{block_size_of}
use Rattle.bep_record.proofs.block.first_fitting.Goals as goal

pub loop-bytes-init : goal.loop-bytes-init
unfolding block_size_of
loop-bytes-init c = refl
