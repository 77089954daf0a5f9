use Rattle.bep_machine.proofs.ConfigEffect.{config_is_taken}
use Rattle.bep_machine.proofs.link_effects.config_is_taken.Goals as goal

pub returns : goal.returns
returns c = config_is_taken
