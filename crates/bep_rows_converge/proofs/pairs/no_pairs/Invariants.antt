use Rattle.std.proofs.Common.{◌≡◌, map, take}
use Rattle.bep_rows_converge.specs.Pairs.{no_pairs}
use Rattle.bep_rows_converge.proofs.pairs.no_pairs.Given as goal

abbrev pub invariant-loop-shared : goal.invariant-loop-shared
invariant-loop-shared l = l.made.items ≡ map no_pairs (take l.shared-index l.folders)
