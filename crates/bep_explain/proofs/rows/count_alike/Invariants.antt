use Rattle.std.proofs.Common.{◌≡◌, take, Contains}
use Rattle.bep_explain.specs.inner.Rows.{named_key}
use Rattle.bep_explain.specs.declared.rows.NamedRow.{NamedRow}
use Rattle.bep_explain.proofs.rows.count_alike.Given as goal

-- those so far are about the first one's name
abbrev pub invariant-loop-row : goal.invariant-loop-row
invariant-loop-row l = (l.count ≡ l.row-index) × ((one : NamedRow) → Contains (take l.row-index l.rows) one → named_key one ≡ named_key l.first)
