use Rattle.std.proofs.Common.{rules}
use Rattle.bep_blocks.proofs.MatchingFacts.{MatchesRest-end}
use Rattle.bep_blocks.proofs.matching.match_all.Goals as goal

pub returns : goal.returns
returns c =
    let end = MatchesRest-end c.loop-block.offset c.args.bytes.now c.args.blocks.now c.loop-block.block-index c.loop-block-test.false c.loop-block.invariant.within in
    (λ t. c.loop-block.invariant.rest.1 (end.1 (search rules)), λ m. let e = end.0 (c.loop-block.invariant.rest.0 m) in search rules)
