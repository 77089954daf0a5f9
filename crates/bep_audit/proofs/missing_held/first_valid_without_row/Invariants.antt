use Rattle.bep_audit.proofs.MissingFacts.{IsLeft, SaysRowIfValid}
use Rattle.bep_audit.proofs.missing_held.first_valid_without_row.Given as goal

abbrev pub invariant-loop-name : goal.invariant-loop-name
invariant-loop-name l = IsLeft (SaysRowIfValid l.rows l.folder) l.records l.name-iterator
