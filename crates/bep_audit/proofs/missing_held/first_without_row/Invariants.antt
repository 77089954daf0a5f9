use Rattle.bep_audit.proofs.MissingFacts.{IsLeft, SaysRow}
use Rattle.bep_audit.proofs.missing_held.first_without_row.Given as goal

abbrev pub invariant-loop-name : goal.invariant-loop-name
invariant-loop-name g l = IsLeft (SaysRow l.rows l.folder) l.held l.name-iterator
