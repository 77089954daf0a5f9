-- How the blocks of a file are shared out among workers (this project's profile).
use Rattle.std.specs.Prelude.{ℕ, ◌+◌, ◌-◌, ◌*◌, ◌/◌, ◌≤◌, List}
use Rattle.bep_record.specs.declared.block.Block.{Block}
use Rattle.bep_blocks.specs.declared.workers.TheConstants.{MAX_WORKERS}
use Rattle.bep_blocks.specs.Plain.{blocks_from}

-- so many workers may hash a file
abbrev pub IsWorkerCount : ℕ → Type 0
IsWorkerCount workers = (1 ≤ workers) × (workers ≤ MAX_WORKERS)

-- the first block of a worker's run: the workers, from 0, get runs of whole blocks that differ by one block at most
abbrev pub run_start : ℕ → ℕ → ℕ → ℕ
run_start workers count worker = worker * count / workers

-- the blocks of a worker's run
abbrev pub run_blocks : ℕ → List ℕ → ℕ → ℕ → ℕ → List Block
run_blocks block_size bytes workers count worker =
    blocks_from block_size bytes (run_start workers count worker)
    (run_start workers count (worker + 1) - run_start workers count worker)
