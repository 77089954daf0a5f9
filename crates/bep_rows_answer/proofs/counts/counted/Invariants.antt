use Rattle.std.proofs.Common.{◌≡◌, map, take}
use Rattle.bep_rows_answer.specs.Counts.{counted}
use Rattle.bep_rows_answer.proofs.counts.counted.Given as goal

abbrev pub invariant-loop-one : goal.invariant-loop-one
invariant-loop-one l = l.made.items ≡ map (counted l.row) (take l.one-index l.counts)
