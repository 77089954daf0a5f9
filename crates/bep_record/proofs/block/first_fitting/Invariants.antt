use Rattle.std.proofs.Common.{◌≡◌, drop}
use Rattle.bep_record.specs.declared.limits.TheConstants.{BLOCK_SIZES}
use Rattle.bep_record.specs.Block.{block_size_of, first_fitting}
use Rattle.bep_record.proofs.block.first_fitting.Given as goal

-- the file has 2000 blocks' bytes, or more, of each size so far
abbrev pub invariant-loop-bytes : goal.invariant-loop-bytes
invariant-loop-bytes l = block_size_of l.len ≡ first_fitting l.len (drop l.bytes-index BLOCK_SIZES)
