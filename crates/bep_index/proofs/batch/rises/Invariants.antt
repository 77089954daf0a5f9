use Rattle.std.proofs.Common.{◌↔◌, drop}
use Rattle.bep_index.specs.Batch.{Rises}
use Rattle.bep_index.proofs.batch.rises.Given as goal

-- the rest rises above the last sequence exactly where all rise
abbrev pub invariant-loop-entry : goal.invariant-loop-entry
invariant-loop-entry l = Rises l.low (drop l.entry-index l.records) ↔ Rises 0 l.records
