use Rattle.std.proofs.Common.{◌↔◌, drop}
use Rattle.bep_index.specs.Batch.{HasNo}
use Rattle.bep_index.proofs.batch.has_no.Given as goal

abbrev pub invariant-loop-entry : goal.invariant-loop-entry
invariant-loop-entry l = HasNo l.name (drop l.entry-index l.records) ↔ HasNo l.name l.records
