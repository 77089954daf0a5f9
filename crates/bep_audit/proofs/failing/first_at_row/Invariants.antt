use Rattle.bep_model.specs.Reasons.{place_cmp}
use Rattle.bep_tables.specs.Cut.{tables_of}
use Rattle.bep_audit.proofs.RowWalk.{AsksRow}
use Rattle.bep_audit.proofs.WalkFacts.{IsLeftFrom}
use Rattle.bep_audit.proofs.failing.first_at_row.Given as goal

abbrev pub invariant-loop-row : goal.invariant-loop-row
invariant-loop-row l = IsLeftFrom place_cmp (AsksRow (tables_of l.cut) l.reason) l.rows l.row-index
