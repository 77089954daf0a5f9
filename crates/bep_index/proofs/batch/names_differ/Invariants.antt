use Rattle.std.proofs.Common.{◌↔◌, drop}
use Rattle.bep_index.specs.Batch.{NamesDiffer}
use Rattle.bep_index.proofs.batch.names_differ.Given as goal

abbrev pub invariant-loop-i : goal.invariant-loop-i
invariant-loop-i l = NamesDiffer (drop l.i l.records) ↔ NamesDiffer l.records
