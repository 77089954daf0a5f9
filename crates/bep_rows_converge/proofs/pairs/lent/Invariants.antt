use Rattle.std.proofs.Common.{◌≡◌, map, take}
use Rattle.bep_converge_check.specs.Progress.{progress_shown}
use Rattle.bep_rows_converge.specs.Pairs.{pairs_shown}
use Rattle.bep_rows_converge.proofs.pairs.lent.Given as goal

abbrev pub invariant-loop-one : goal.invariant-loop-one
invariant-loop-one l = map progress_shown l.made.items ≡ map pairs_shown (take l.one-index l.all)
