use Rattle.std.proofs.Common.{drop}
use Rattle.std.specs.List.{AllByRecursion}
use Rattle.bep_origin.specs.FromCut.{IsGoodShare}
use Rattle.bep_origin.proofs.from_cut.shares_are_good.Given as goal

-- where those that are left are good, all are
abbrev pub invariant-loop-share : goal.invariant-loop-share
invariant-loop-share l = AllByRecursion IsGoodShare (drop l.share-index l.shares) → AllByRecursion IsGoodShare l.shares
