use Rattle.bep_tables.specs.Cut.{tables_of}
use Rattle.bep_audit.proofs.GroupRow.{HoldHere}
use Rattle.bep_audit.proofs.group_row.failure_at_row.Given as goal

abbrev pub invariant-loop-reason : goal.invariant-loop-reason
invariant-loop-reason l = HoldHere (tables_of l.cut) l.row l.reason-index
