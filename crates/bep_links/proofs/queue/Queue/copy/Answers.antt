use Rattle.std.proofs.Common.{sym, subst}
use Rattle.bep_machine.specs.Sound.{IsSoundQueue}
use Rattle.bep_links.proofs.queue.Queue.copy.Goals as goal

pub invariant_of-result : goal.invariant_of-result
invariant_of-result c = subst IsSoundQueue (sym c.in_ok-copy_of.ensures) c.self.invariant
