use Rattle.bep_tables.specs.Cut.{tables_of}
use Rattle.bep_audit.proofs.ReasonWalk.{HoldBefore}
use Rattle.bep_audit.proofs.checkers.check_plain.Given as goal

abbrev pub invariant-loop-reason : goal.invariant-loop-reason
invariant-loop-reason l = HoldBefore (tables_of l.cut) l.certificate l.reason-index
