use Rattle.std.proofs.Common.{drop}
use Rattle.std.specs.List.{AllByRecursion}
use Rattle.bep_origin.specs.FromCut.{IsGoodFolder}
use Rattle.bep_origin.proofs.from_cut.folders_are_good.Given as goal

-- where those that are left are good, all are
abbrev pub invariant-loop-shared : goal.invariant-loop-shared
invariant-loop-shared l = AllByRecursion IsGoodFolder (drop l.shared-index l.folders) → AllByRecursion IsGoodFolder l.folders
