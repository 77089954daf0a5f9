use Rattle.std.proofs.Common.{length}
use Rattle.bep_run.specs.inner.Kept.{IsFirstSeat, objects_of_links}
use Rattle.bep_run.specs.Origin.{links_in}
use Rattle.bep_run.proofs.Places.{AreLeft}
use Rattle.bep_run.proofs.shared.join_all.Given as goal

-- those that aren't behind locks yet stand at the places from here on, and the seat has their rows
abbrev pub invariant-loop-link : goal.invariant-loop-link
invariant-loop-link g l = record {
  left : AreLeft (links_in g.O.Origin.start) (length l.links.items) l.link-iterator.rest.items;
  seat : IsFirstSeat g.O.Tabled.table (objects_of_links l.link-iterator.rest.items) l.seat;
}
