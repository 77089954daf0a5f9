use Rattle.bep_links.proofs.QueueFacts.{rest_is_sound}
use Rattle.bep_links.proofs.queue.Queue.pop.Goals as goal

pub invariant_of-self : goal.invariant_of-self
invariant_of-self c = rest_is_sound c.self.inside.messages.items c.pop_front.new.self.items c.pop_front.result c.pop_front.ensures.items c.self.invariant
