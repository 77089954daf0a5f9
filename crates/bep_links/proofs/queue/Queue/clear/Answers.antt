use Rattle.std.proofs.Common.{sym, subst}
use Rattle.bep_machine.specs.Sound.{IsSoundQueue}
use Rattle.bep_links.proofs.QueueFacts.{nothing_waits}
use Rattle.bep_links.proofs.queue.Queue.clear.Goals as goal

pub invariant_of-self : goal.invariant_of-self
invariant_of-self c = subst IsSoundQueue (sym c.clear.ensures.items) nothing_waits
