use Rattle.bep_folder.proofs.BlockFacts.{block_matches, block_of_match}
use Rattle.bep_folder.proofs.pull.are_of.Goals as goal

pub returns : goal.returns
returns c = (
  λ same. block_of_match c.args.block.now c.args.bytes.now (c.matches.ensures.0 same),
  λ are. c.matches.ensures.1 (block_matches c.args.block.now c.args.bytes.now are),
)
