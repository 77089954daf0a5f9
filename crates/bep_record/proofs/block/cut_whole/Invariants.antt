use Rattle.std.proofs.Common.{◌≡◌, take, map}
use Rattle.std.specs.List.{range_with_len}
use Rattle.bep_record.specs.Block.{cut_at}
use Rattle.bep_record.proofs.block.cut_whole.Given as goal

-- each block so far stands where the cut at its place does
abbrev pub invariant-loop-place : goal.invariant-loop-place
invariant-loop-place l =
    map (λ b. (b.offset, b.size)) (take l.place l.blocks) ≡ map (λ k. cut_at l.size l.len k) (range_with_len 0 l.place)
