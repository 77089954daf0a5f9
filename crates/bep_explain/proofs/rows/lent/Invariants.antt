use Rattle.std.proofs.Common.{◌≡◌, ◌++◌, drop, map}
use Rattle.bep_explain.specs.inner.Rows.{row_shown}
use Rattle.bep_explain.proofs.rows.lent.Given as goal

-- those that are lent, with those that are left, are all
abbrev pub invariant-loop-row : goal.invariant-loop-row
invariant-loop-row l = map row_shown l.all.items ++ drop l.row-index l.rows ≡ l.rows
