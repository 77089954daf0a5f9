use Rattle.bep_json.proofs.BlockFacts.{blocks_from-hashes, cut_whole-where_counted, counted-where_cut_whole}
use Rattle.bep_json.proofs.laws.hashes_make_blocks.Goals as goal

pub returns : goal.returns
returns c = record { hashes = λ size hashes. blocks_from-hashes size 0 hashes; cut = λ size hashes. (counted-where_cut_whole size hashes, cut_whole-where_counted size hashes) }
