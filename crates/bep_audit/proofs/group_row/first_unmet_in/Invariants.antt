use Rattle.std.proofs.Common.{map}
use Rattle.std.specs.Ordering.{nat_cmp}
use Rattle.bep_tables.specs.Listed.{listed}
use Rattle.bep_audit.specs.Group.{AsksGroup}
use Rattle.bep_audit.proofs.UnmetFacts.{MeetsAs}
use Rattle.bep_audit.proofs.WalkFacts.{IsLeftFrom}
use Rattle.bep_audit.proofs.group_row.first_unmet_in.Given as goal

abbrev pub invariant-loop-share : goal.invariant-loop-share
invariant-loop-share l = IsLeftFrom nat_cmp (MeetsAs (AsksGroup l.reason l.row (map listed l.group))) l.shares l.share-index
