use Rattle.std.proofs.Common.{◌≡◌}
use Rattle.bep_blocks.specs.Plain.{blocks_from}
use Rattle.bep_blocks.specs.Workers.{run_start}
use Rattle.bep_blocks.proofs.workers.cut_by.Given as goal

-- the blocks of the runs so far
abbrev pub invariant-loop-worker : goal.invariant-loop-worker
invariant-loop-worker g l = l.list.items ≡ blocks_from l.block_size l.bytes 0 (run_start l.workers l.count l.worker)
