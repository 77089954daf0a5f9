use Rattle.std.proofs.Common.{◌-◌, ◌+◌, length}
use Rattle.bep_rows_answer.specs.Input.{IsGrown}
use Rattle.bep_rows_answer.proofs.input.read_line.Given as goal

-- what is pending has grown by what was read so far
abbrev pub invariant-loop-pending : goal.invariant-loop-pending
invariant-loop-pending g l = IsGrown (g.R.Read.remaining l.fn.reader) (g.R.Read.remaining l.reader) l.fn.pending.items l.pending.items

-- each turn reads a byte or more
abbrev pub decreases-loop-pending : goal.decreases-loop-pending
decreases-loop-pending g l = 1048577 - length l.pending.items
