use Rattle.bep_machine.proofs.RequestEffect.{request_is_answered_lem}
use Rattle.bep_machine.proofs.link_effects.request_is_answered.Goals as goal

pub returns : goal.returns
returns c = request_is_answered_lem
