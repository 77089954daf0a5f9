use Rattle.std.proofs.Common.{◌≡◌, map, take}
use Rattle.bep_rows_answer.specs.Counts.{no_count}
use Rattle.bep_rows_answer.proofs.counts.no_counts.Given as goal

abbrev pub invariant-loop-shared : goal.invariant-loop-shared
invariant-loop-shared l = l.made.items ≡ map no_count (take l.shared-index l.folders)
