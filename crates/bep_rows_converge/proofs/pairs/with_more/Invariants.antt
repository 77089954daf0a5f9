use Rattle.std.proofs.Common.{◌≡◌, map, take}
use Rattle.bep_converge_check.specs.Progress.{progress_shown}
use Rattle.bep_rows_converge.specs.Pairs.{with_more}
use Rattle.bep_rows_converge.proofs.pairs.with_more.Given as goal

abbrev pub invariant-loop-one : goal.invariant-loop-one
invariant-loop-one l = l.made.items ≡ map (with_more (progress_shown l.here)) (take l.one-index l.all)
