use Rattle.std.proofs.Common.{◌≡◌, ◌-◌}
use Rattle.bep_blocks.specs.Plain.{blocks_from}
use Rattle.bep_blocks.proofs.plain.cut_run.Given as goal

-- the blocks of the pieces so far
abbrev pub invariant-loop-k : goal.invariant-loop-k
invariant-loop-k l = l.list.items ≡ blocks_from l.block_size l.bytes l.first (l.k - l.first)
