use Rattle.bep_machine.proofs.PullEffect.{wanted_is_newer_lem}
use Rattle.bep_machine.proofs.effects.wanted_is_newer.Goals as goal

pub returns : goal.returns
returns c = wanted_is_newer_lem
