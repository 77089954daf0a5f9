use Rattle.std.proofs.Common.{◌≡◌, take}
use Rattle.bep_index.proofs.records.Records.add_copies.Given as goal

-- those that went by
abbrev pub invariant-loop-entry : goal.invariant-loop-entry
invariant-loop-entry l = l.self ≡ take l.entry-index l.records
