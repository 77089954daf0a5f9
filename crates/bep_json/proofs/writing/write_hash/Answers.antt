use Rattle.std.proofs.Common.{subst}
use Rattle.hex.specs.Hex.{IsBytes}
use Rattle.bep_json.proofs.WrittenFacts.{hash_says}
use Rattle.bep_json.proofs.writing.write_hash.Goals as goal

pub returns-clause-back : goal.returns-clause-back
returns-clause-back c = hash_says c.args.hash.now c.told-hash (subst IsBytes c.as_slice.ensures c.write_hex.ensures.bytes)
