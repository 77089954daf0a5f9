use Rattle.bep_machine.proofs.RequestEffect.{ask_sends_request}
use Rattle.bep_machine.proofs.link_effects.block_is_asked_for.Goals as goal

pub returns : goal.returns
returns c = ask_sends_request
