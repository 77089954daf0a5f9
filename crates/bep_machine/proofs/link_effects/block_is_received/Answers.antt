use Rattle.bep_machine.proofs.ResponseEffect.{block_is_received_lem}
use Rattle.bep_machine.proofs.link_effects.block_is_received.Goals as goal

pub returns : goal.returns
returns c = block_is_received_lem
