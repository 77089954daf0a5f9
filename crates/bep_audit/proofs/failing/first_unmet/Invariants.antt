use Rattle.std.specs.Ordering.{nat_cmp}
use Rattle.bep_audit.specs.inner.Held.{AsksOf}
use Rattle.bep_audit.proofs.UnmetFacts.{MeetsAs}
use Rattle.bep_audit.proofs.WalkFacts.{IsLeftFrom}
use Rattle.bep_audit.proofs.failing.first_unmet.Given as goal

abbrev pub invariant-loop-share : goal.invariant-loop-share
invariant-loop-share l = IsLeftFrom nat_cmp (MeetsAs (AsksOf l.reason l.row l.links)) l.shares l.share-index
