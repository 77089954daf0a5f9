use Rattle.std.proofs.Common.{drop}
use Rattle.std.specs.List.{AllByRecursion}
use Rattle.bep_origin.specs.FromCut.{IsGoodState}
use Rattle.bep_origin.proofs.from_cut.links_are_good.Given as goal

-- where those that are left are good, all are
abbrev pub invariant-loop-link : goal.invariant-loop-link
invariant-loop-link l = AllByRecursion IsGoodState (drop l.link-index l.links) → AllByRecursion IsGoodState l.links
