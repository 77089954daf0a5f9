use Rattle.std.proofs.Common.{sym}
use Rattle.bep_links.specs.Side.{end_at}
use Rattle.bep_machine.specs.Link.{queue_to}
use Rattle.bep_cut.specs.LinkState.{both_have, carried}
use Rattle.bep_cut.proofs.FlightFacts.{with_next}
use Rattle.bep_cut.proofs.flights.add_waiting.Goals as goal

pub loop-place-preserved : goal.loop-place-preserved
loop-place-preserved g c = record {
  flights =
      with_next (carried (both_have c.args.lower.now c.args.upper.now)) (queue_to (end_at c.args.side) c.args.link.now.link) c.loop-place.place c.in-Some.message.now
      c.args.flights.now.items c.loop-place.flights.items c.add_message.new.flights.items (sym c.in-Some.ensures.value) c.loop-place.invariant.flights c.in_ok-add_message-in-Some.ensures.flights;
  batches = λ before. c.in_ok-add_message-in-Some.ensures.batches (c.loop-place.invariant.batches before);
}
