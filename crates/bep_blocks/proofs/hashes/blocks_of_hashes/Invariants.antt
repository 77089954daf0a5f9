use Rattle.std.proofs.Common.{◌≡◌, map, take}
use Rattle.std.specs.List.{range_with_len}
use Rattle.bep_record.specs.Block.{cut_at}
use Rattle.bep_blocks.proofs.hashes.blocks_of_hashes.Given as goal

abbrev pub invariant-loop-k : goal.invariant-loop-k
invariant-loop-k l =
    record {
      cut : map (λ b. (b.offset, b.size)) l.list.items
          ≡ map (λ k. cut_at l.block_size l.file_len k) (range_with_len 0 l.k);
      hashes : map (λ b. b.hash) l.list.items ≡ take l.k l.hashes;
    }
