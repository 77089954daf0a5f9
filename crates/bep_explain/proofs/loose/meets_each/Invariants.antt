use Rattle.std.proofs.Common.{[], ◌∷◌, take, Contains}
use Rattle.bep_tables.specs.Listed.{listed}
use Rattle.bep_audit.specs.Loose.{MeetsFirm}
use Rattle.bep_explain.specs.inner.Rows.{row_shown}
use Rattle.bep_explain.specs.declared.rows.NamedRow.{NamedRow}
use Rattle.bep_explain.proofs.loose.meets_each.Given as goal

-- it meets that beside those so far
abbrev pub invariant-loop-one : goal.invariant-loop-one
invariant-loop-one l = (one : NamedRow) → Contains (take l.one-index l.rows) one → MeetsFirm (row_shown one ∷ []) (listed l.entry)
