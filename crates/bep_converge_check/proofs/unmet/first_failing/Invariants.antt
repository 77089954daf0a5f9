use Rattle.std.specs.Ordering.{nat_cmp}
use Rattle.bep_audit.proofs.UnmetFacts.{MeetsAs}
use Rattle.bep_audit.proofs.WalkFacts.{IsLeftFrom}
use Rattle.bep_converge_check.specs.inner.Asked.{AsksOfShare}
use Rattle.bep_converge_check.proofs.unmet.first_failing.Given as goal

abbrev pub invariant-loop-share : goal.invariant-loop-share
invariant-loop-share l = IsLeftFrom nat_cmp (MeetsAs (AsksOfShare l.reason l.top l.name)) l.shares l.share-index
