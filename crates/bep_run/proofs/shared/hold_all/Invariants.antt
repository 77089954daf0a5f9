use Rattle.std.proofs.Common.{◌++◌, length, map}
use Rattle.bep_cut.specs.Cut.{seen}
use Rattle.bep_run.specs.inner.Kept.{IsFirstSeat, objects_of_links, objects_of_peers}
use Rattle.bep_run.specs.Origin.{devices_in}
use Rattle.bep_run.proofs.Places.{AreLeft}
use Rattle.bep_run.proofs.shared.hold_all.Given as goal

-- those that aren't behind locks yet stand at the places from here on, and the seat has their rows
abbrev pub invariant-loop-peer : goal.invariant-loop-peer
invariant-loop-peer g l = record {
  left : AreLeft (devices_in g.O.Origin.start) (length l.devices.items) (map seen l.peer-iterator.rest.items);
  seat : IsFirstSeat g.O.Tabled.table (objects_of_peers l.peer-iterator.rest.items ++ objects_of_links l.joining) l.seat;
}
