use Rattle.std.proofs.Common.{◌≡◌, drop}
use Rattle.bep_index.specs.Batch.{last_sequence}
use Rattle.bep_index.proofs.all.last_sequence_of.Given as goal

abbrev pub invariant-loop-entry : goal.invariant-loop-entry
invariant-loop-entry l = last_sequence l.last (drop l.entry-index l.records) ≡ last_sequence l.low l.records
