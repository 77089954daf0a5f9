use Rattle.std.proofs.Common.{◌↔◌, ◌≤◌, drop, length}
use Rattle.bep_blocks.specs.Matching.{MatchesRest}
use Rattle.bep_blocks.proofs.matching.match_all.Given as goal

abbrev pub invariant-loop-block : goal.invariant-loop-block
invariant-loop-block l =
    record {
      within : l.offset ≤ length l.bytes;
      rest : MatchesRest 0 l.bytes l.blocks
          ↔ MatchesRest l.offset (drop l.offset l.bytes) (drop l.block-index l.blocks);
    }
