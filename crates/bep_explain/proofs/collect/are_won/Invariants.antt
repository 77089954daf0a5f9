use Rattle.std.proofs.Common.{take, Contains}
use Rattle.bep_model.specs.Settled.{key_of}
use Rattle.bep_model.specs.Winner.{IsWinner}
use Rattle.bep_tables.specs.Cut.{tables_of}
use Rattle.bep_explain.specs.inner.Rows.{row_shown}
use Rattle.bep_explain.specs.declared.rows.NamedRow.{NamedRow}
use Rattle.bep_explain.proofs.collect.are_won.Given as goal

-- those so far have the winner
abbrev pub invariant-loop-one : goal.invariant-loop-one
invariant-loop-one l =
    (one : NamedRow) → Contains (take l.one-index l.rows) one →
    IsWinner (tables_of l.cut) (key_of l.row).0 (key_of l.row).1 ((row_shown one).device, (row_shown one).entry)
