use Rattle.std.proofs.Common.{take}
use Rattle.bep_rows.specs.ListRead.{IsListRead}
use Rattle.bep_rows.proofs.all.standing_of_rows.Given as goal

abbrev pub invariant-loop-row : goal.invariant-loop-row
invariant-loop-row l = IsListRead l.aim l.header (take l.row-index l.rows) l.stream
