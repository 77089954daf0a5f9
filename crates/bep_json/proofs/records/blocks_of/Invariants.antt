use Rattle.std.proofs.Common.{◌≡◌, ◌≤◌, ◌++◌, drop}
use Rattle.bep_json.specs.Records.{blocks_from}
use Rattle.bep_json.proofs.records.blocks_of.Given as goal

abbrev pub invariant-loop-hash : goal.invariant-loop-hash
invariant-loop-hash l =
    (l.offset ≤ l.size) × (l.blocks.items ++ blocks_from l.size l.offset (drop l.hash-index l.hashes) ≡ blocks_from l.size 0 l.hashes)
