use Rattle.std.proofs.Common.{◌≡◌, ◌+◌, true, length, map}
use Rattle.bep_run.specs.inner.Ending.{KnowsDevices}
use Rattle.bep_run.specs.Origin.{AreFirst, devices_in}
use Rattle.bep_run.specs.Based.{base_seen}
use Rattle.bep_run.specs.Quiet.{device_logs, quiet_logs}
use Rattle.bep_run.proofs.ending.end_devices.Given as goal

-- the copies so far are those of the first ones, and their seats came together
abbrev pub invariant-loop-held : goal.invariant-loop-held
invariant-loop-held g l = record {
  own : l.whole.table_id ≡ l.initial.whole.table_id;
  first : AreFirst (devices_in g.O.Origin.start) (map base_seen l.copies.items);
  count : length l.copies.items + length l.held-iterator.rest.items ≡ length l.fn.devices.items;
  quiet : quiet_logs g.O.Origin.start (device_logs l.copies.items) ≡ true;
  knows : KnowsDevices g.O.Tabled.table l.copies.items l.whole.me.0.rows;
}
