use Rattle.std.proofs.Common.{◌-◌, ◌≤◌, ◌≡◌, length}
use Rattle.std.specs.Io.KnownBytes.{Consumes}
use Rattle.bep_report.proofs.input.read_up_to.Given as goal

-- what was read so far is what the reader lost
abbrev pub invariant-loop-bytes : goal.invariant-loop-bytes
invariant-loop-bytes g l =
    record {
      within : length l.bytes.items ≤ l.most;
      taken : Consumes (g.R.Read.remaining l.fn.reader) (g.R.Read.remaining l.reader) l.bytes.items;
      buffer : length l.buffer.items ≡ 65536;
    }

-- each turn reads a byte or more
abbrev pub decreases-loop-bytes : goal.decreases-loop-bytes
decreases-loop-bytes g l = l.most - length l.bytes.items
