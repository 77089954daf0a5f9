use Rattle.std.proofs.Common.{◌≡◌, true, length, map}
use Rattle.bep_run.specs.Origin.{AreFirst, devices_in}
use Rattle.bep_run.specs.Based.{base_seen}
use Rattle.bep_run.specs.Quiet.{device_logs, quiet_logs}
use Rattle.bep_run.proofs.cuts.copy_peers.Given as goal

-- the copies so far are those of the first ones
abbrev pub invariant-loop-peer : goal.invariant-loop-peer
invariant-loop-peer g l = record {
  first : AreFirst (devices_in g.O.Origin.start) (map base_seen l.copies.items);
  count : length l.copies.items ≡ l.peer-index;
  quiet : quiet_logs g.O.Origin.start (device_logs l.copies.items) ≡ true;
}
