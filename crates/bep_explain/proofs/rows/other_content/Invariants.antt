use Rattle.std.proofs.Common.{◌≡◌, take, Contains}
use Rattle.bep_record.specs.Content.{content_of}
use Rattle.bep_explain.specs.inner.Rows.{row_shown}
use Rattle.bep_explain.specs.declared.rows.NamedRow.{NamedRow}
use Rattle.bep_explain.proofs.rows.other_content.Given as goal

-- those so far have the row's content
abbrev pub invariant-loop-one : goal.invariant-loop-one
invariant-loop-one l = (one : NamedRow) → Contains (take l.one-index l.rows) one → content_of (row_shown one).entry ≡ content_of l.row.entry
