use Rattle.std.proofs.Common.{drop}
use Rattle.std.specs.List.{AllByRecursion}
use Rattle.bep_origin.specs.FromCut.{IsGoodView}
use Rattle.bep_origin.proofs.from_cut.views_are_good.Given as goal

-- where those that are left are good, all are
abbrev pub invariant-loop-view : goal.invariant-loop-view
invariant-loop-view l = AllByRecursion IsGoodView (drop l.view-index l.views) → AllByRecursion IsGoodView l.views
