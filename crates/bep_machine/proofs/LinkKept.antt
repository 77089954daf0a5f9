-- A link stays sound, whatever a device may do to it.
use Rattle.std.proofs.Common.{◌≡◌, Bool, true, false, List, [], ◌∷◌, length, drop, Option, Some, None, nat_le, if◌then◌else◌, refl, ap, subst, ⊎_elim, arith, length-append, leb-false, true≢false}
use Rattle.std.proofs.lemmas.Bool.{cases_Bool}
use Rattle.std.proofs.lemmas.List.Elements.{Contains-push_cases}
use Rattle.std.proofs.lemmas.Option.{none-some, same_Some}
use Rattle.bep_facts.specs.Members.{not_in_none, Contains-first, Contains-more}
use Rattle.bep_record.specs.declared.limits.TheConstants.{MAX_MESSAGES}
use Rattle.bep_machine.specs.declared.message.Message.{Message}
use Rattle.bep_machine.specs.Link.{End, Lower, Upper, Link, Sight, Deed, sight_of, queue_to, queue_from, with_queues, connected, lost, first_of_queue, after_taking, after_sending, after_deed}
use Rattle.bep_machine.specs.Sound.{IsSoundMessage, IsSoundQueue, IsSoundLink}

-- the message can be sent over a link that is seen so
pub record MaySend (sight : Sight) (message : Message) : Type 0 where
  pub sound : IsSoundMessage message
  pub room : ¬ (sight.full ≡ true)
  pub up : ¬ (sight.up ≡ false)

pub one_sent : (sight : Sight) (message sent : Message) → MaySend sight message → Some message ≡ Some sent → MaySend sight sent
one_sent sight message sent may is = subst (λ m. MaySend sight m) (same_Some message sent is) may

-- ---- queues

pub no_queue : IsSoundQueue []
no_queue = record { few = omega arith; messages = λ message member. absurd (not_in_none message member) }

rest_is_sound : (queue : List Message) → IsSoundQueue queue → IsSoundQueue (drop 1 queue)
rest_is_sound [] sound = no_queue
rest_is_sound (first ∷ more) sound = record {
  few = let few = sound.few in omega arith;
  messages = λ message member. sound.messages message (Contains-more first more message member);
}

sound_taking : (takes : Bool) (queue : List Message) → IsSoundQueue queue → IsSoundQueue (after_taking takes queue)
sound_taking true queue sound = rest_is_sound queue sound
sound_taking false queue sound = sound

sound_sending : (sends : Option Message) (queue : List Message) → IsSoundQueue queue
    → ((message : Message) → sends ≡ Some message → IsSoundMessage message × (¬ (nat_le MAX_MESSAGES (length queue) ≡ true))) → IsSoundQueue (after_sending sends queue)
sound_sending None queue sound may = sound
sound_sending (Some message) queue sound may = record {
  few =
      let room = leb-false MAX_MESSAGES (length queue) (⊎_elim (λ full. absurd ((may message refl).1 full)) (λ room. room) (cases_Bool (nat_le MAX_MESSAGES (length queue)))) in
      let long = length-append queue (message ∷ []) in
      omega arith;
  messages = λ one member.
      ⊎_elim
      (λ before. sound.messages one before)
      (λ same. subst (λ m. IsSoundMessage m) same (may message refl).0)
      (Contains-push_cases queue message one member);
}

-- ---- links

pub sound_connected : (link : Link) → IsSoundLink (connected link)
sound_connected link = record { to_lower = no_queue; to_upper = no_queue; down = λ down. absurd (true≢false down) }

pub sound_lost : (link : Link) → IsSoundLink (lost link)
sound_lost link = record { to_lower = no_queue; to_upper = no_queue; down = λ down. (refl, refl) }

sound_with_queues : (end : End) (link : Link) (to from : List Message) → IsSoundQueue to → IsSoundQueue from → (link.up ≡ false → (to ≡ []) × (from ≡ [])) → IsSoundLink (with_queues end link to from)
sound_with_queues Lower link to from one other down = record { to_lower = one; to_upper = other; down = down }
sound_with_queues Upper link to from one other down = record { to_lower = other; to_upper = one; down = λ e. ((down e).1, (down e).0) }

to_is_sound : (end : End) (link : Link) → IsSoundLink link → IsSoundQueue (queue_to end link)
to_is_sound Lower link sound = sound.to_lower
to_is_sound Upper link sound = sound.to_upper

from_is_sound : (end : End) (link : Link) → IsSoundLink link → IsSoundQueue (queue_from end link)
from_is_sound Lower link sound = sound.to_upper
from_is_sound Upper link sound = sound.to_lower

both_empty : (end : End) (link : Link) → IsSoundLink link → link.up ≡ false → (queue_to end link ≡ []) × (queue_from end link ≡ [])
both_empty Lower link sound down = sound.down down
both_empty Upper link sound down = ((sound.down down).1, (sound.down down).0)

nothing_taken : (takes : Bool) (queue : List Message) → queue ≡ [] → after_taking takes queue ≡ []
nothing_taken true queue none = ap (λ q. drop 1 q) none
nothing_taken false queue none = none

nothing_sent : (sends : Option Message) (queue : List Message) → ((message : Message) → ¬ (sends ≡ Some message)) → queue ≡ [] → after_sending sends queue ≡ []
nothing_sent None queue never none = none
nothing_sent (Some message) queue never none = absurd (never message refl)

pub sound_after_deed : (end : End) (deed : Deed) (link : Link) → IsSoundLink link → ((message : Message) → deed.sends ≡ Some message → MaySend (sight_of end link) message) → IsSoundLink (after_deed end deed link)
sound_after_deed end deed link sound may = cases deed.loses
  where
    cases : (b : Bool) → IsSoundLink (if b then lost link else with_queues end link (after_taking deed.takes (queue_to end link)) (after_sending deed.sends (queue_from end link)))
    cases true = sound_lost link
    cases false =
        sound_with_queues end link (after_taking deed.takes (queue_to end link)) (after_sending deed.sends (queue_from end link))
        (sound_taking deed.takes (queue_to end link) (to_is_sound end link sound))
        (sound_sending deed.sends (queue_from end link) (from_is_sound end link sound) (λ message is. ((may message is).sound, (may message is).room)))
        (λ down. (
          nothing_taken deed.takes (queue_to end link) (both_empty end link sound down).0,
          nothing_sent deed.sends (queue_from end link) (λ message is. (may message is).up down) (both_empty end link sound down).1,
        ))

-- the message that waits is in the queue
pub waiting_is_sound : (end : End) (link : Link) → IsSoundLink link → (message : Message) → (sight_of end link).waiting ≡ Some message → IsSoundMessage message
waiting_is_sound end link sound message = first (queue_to end link) (to_is_sound end link sound)
  where
    first : (queue : List Message) → IsSoundQueue queue → first_of_queue queue ≡ Some message → IsSoundMessage message
    first [] all is = absurd (none-some message is)
    first (one ∷ more) all is = subst (λ m. IsSoundMessage m) (same_Some one message is) (all.messages one (Contains-first one more))
