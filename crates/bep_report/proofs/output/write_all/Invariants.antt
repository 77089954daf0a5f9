use Rattle.std.proofs.Common.{◌-◌, ◌≤◌, length, take}
use Rattle.std.specs.Io.KnownBytes.{Appends}
use Rattle.bep_report.proofs.output.write_all.Given as goal

-- what is written so far is in the writer
abbrev pub invariant-loop-written : goal.invariant-loop-written
invariant-loop-written g l =
    record {
      within : l.written ≤ length l.bytes;
      appended : Appends (g.W.Write.contents l.fn.writer) (g.W.Write.contents l.writer) (take l.written l.bytes);
    }

-- each turn writes a byte or more
abbrev pub decreases-loop-written : goal.decreases-loop-written
decreases-loop-written g l = length l.bytes - l.written
