-- A queue stays sound where a message is added or taken.
use Rattle.std.proofs.Common.{◌≡◌, ◌<◌, ◌++◌, List, [], ◌∷◌, length, Option, Some, None, Contains, length-append, ap, sym, subst, ⊎_elim, arith}
use Rattle.std.specs.Option.{option_to_list}
use Rattle.std.proofs.lemmas.List.Elements.{Contains-push_cases}
use Rattle.bep_facts.specs.Members.{not_in_none, Contains-more}
use Rattle.bep_record.specs.declared.limits.TheConstants.{MAX_MESSAGES}
use Rattle.bep_machine.specs.declared.message.Message.{Message}
use Rattle.bep_machine.specs.Sound.{IsSoundMessage, IsSoundQueue}

pub nothing_waits : IsSoundQueue []
nothing_waits = record { few = omega arith; messages = λ message stands. absurd (not_in_none message stands) }

pub one_more : (queue : List Message) (message : Message) → length queue < MAX_MESSAGES → IsSoundMessage message → IsSoundQueue queue → IsSoundQueue (queue ++ message ∷ [])
one_more queue message room good old = record {
  few = let all = length-append queue (message ∷ []) in omega (arith, all);
  messages = λ one stands.
      ⊎_elim (λ before. old.messages one before) (λ last. subst IsSoundMessage last good) (Contains-push_cases queue message one stands);
}

-- once the first was taken, if there was one
pub rest_is_sound : (queue rest : List Message) (first : Option Message) → queue ≡ option_to_list first ++ rest → IsSoundQueue queue → IsSoundQueue rest
rest_is_sound queue rest None is old = subst IsSoundQueue is old
rest_is_sound queue rest (Some first) is old = record {
  few = let few = old.few in let all = ap length is in omega (arith, few, all);
  messages = λ one stands. old.messages one (subst (λ (all : List Message). Contains all one) (sym is) (Contains-more first rest one stands));
}
