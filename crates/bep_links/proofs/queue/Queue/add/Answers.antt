use Rattle.std.proofs.Common.{◌<◌, List, length, sym, subst}
use Rattle.bep_record.specs.declared.limits.TheConstants.{MAX_MESSAGES}
use Rattle.bep_machine.specs.declared.message.Message.{Message}
use Rattle.bep_machine.specs.Sound.{IsSoundQueue}
use Rattle.bep_links.proofs.QueueFacts.{one_more}
use Rattle.bep_links.proofs.queue.Queue.add.Goals as goal

-- without memory it is as before
pub invariant_of-self : goal.invariant_of-self
invariant_of-self c = subst IsSoundQueue (sym c.in_err-push_back.ensures.items) c.self.invariant

pub invariant_of-self-2 : goal.invariant_of-self-2
invariant_of-self-2 c =
    subst IsSoundQueue (sym c.in_ok-push_back.ensures.items)
    (one_more c.self.inside.messages.items c.args.message (subst (λ (queue : List Message). length queue < MAX_MESSAGES) (sym c.self.view_is) c.requires) c.message_is_sound.ensures c.self.invariant)
