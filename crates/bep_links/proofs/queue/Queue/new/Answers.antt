use Rattle.std.proofs.Common.{sym, subst}
use Rattle.bep_machine.specs.Sound.{IsSoundQueue}
use Rattle.bep_links.proofs.QueueFacts.{nothing_waits}
use Rattle.bep_links.proofs.queue.Queue.new.Goals as goal

pub invariant_of-result : goal.invariant_of-result
invariant_of-result c = subst IsSoundQueue (sym c.new.ensures.items) nothing_waits
