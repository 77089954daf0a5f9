use Rattle.std.proofs.Common.{◌≡◌, ◌++◌, take}
use Rattle.std.specs.List.{flat_map}
use Rattle.bep_rows_answer.specs.Counts.{count_line}
use Rattle.bep_rows_answer.proofs.counts.push_counts.Given as goal

abbrev pub invariant-loop-one : goal.invariant-loop-one
invariant-loop-one l = l.text.items ≡ l.initial.text.items ++ flat_map count_line (take l.one-index l.counts)
