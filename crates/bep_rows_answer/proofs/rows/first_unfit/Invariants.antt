use Rattle.std.proofs.Common.{Option, drop}
use Rattle.bep_model.specs.Tables.{Device}
use Rattle.bep_rows_answer.specs.Rows.{IsFirstUnfit}
use Rattle.bep_rows_answer.proofs.rows.first_unfit.Given as goal

-- what is first among the shares that are left is first among all
abbrev pub invariant-loop-share : goal.invariant-loop-share
invariant-loop-share l = (found : Option Device) → IsFirstUnfit l.row (drop l.share-index l.shares) found → IsFirstUnfit l.row l.shares found
