use Rattle.std.proofs.Common.{◌≡◌, ◌++◌, take, flat_map}
use Rattle.std.specs.List.{AllByRecursion}
use Rattle.bep_links.specs.Side.{end_at}
use Rattle.bep_machine.specs.Link.{queue_to}
use Rattle.bep_cut.specs.LinkState.{HasBatch, both_have, carried}
use Rattle.bep_cut.proofs.flights.add_waiting.Given as goal

-- the flights are those of the messages so far; where those before had batches, all have
abbrev pub invariant-loop-place : goal.invariant-loop-place
invariant-loop-place g l = record {
  flights : l.flights.items ≡ l.initial.flights.items ++ flat_map (carried (both_have l.lower l.upper)) (take l.place (queue_to (end_at l.side) l.link.link));
  batches : AllByRecursion HasBatch l.initial.flights.items → AllByRecursion HasBatch l.flights.items;
}
