use Rattle.std.proofs.Common.{refl}
use Rattle.sha2.specs.Sha256.{compress, digest_bytes, first_words, hash_after, rounds, schedule, sha256}
use Rattle.bep_blocks.specs.Plain.{hash_of}
use Rattle.bep_blocks.proofs.MatchingFacts.{only-plain, plain-matches}
use Rattle.bep_blocks.proofs.PlainFacts.{CutWhole-plain_blocks, plain_blocks-nil}
use Rattle.bep_blocks.proofs.laws.plain_blocks_match.Goals as goal

pub returns-clause-nothing : goal.returns-clause-nothing
returns-clause-nothing c = plain_blocks-nil

-- by computing
pub returns-clause-nothing_hash : goal.returns-clause-nothing_hash
unfolding hash_of first_words schedule rounds compress hash_after digest_bytes sha256
returns-clause-nothing_hash c = refl

pub returns-clause-cut : goal.returns-clause-cut
returns-clause-cut c = CutWhole-plain_blocks

pub returns-clause-matching : goal.returns-clause-matching
returns-clause-matching c = plain-matches

pub returns-clause-only : goal.returns-clause-only
returns-clause-only c = only-plain
