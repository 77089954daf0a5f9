use Rattle.bep_machine.proofs.ResponseEffect.{unasked_is_ignored_lem}
use Rattle.bep_machine.proofs.link_effects.unasked_is_ignored.Goals as goal

pub returns : goal.returns
returns c = unasked_is_ignored_lem
