use Rattle.bep_machine.proofs.OverrideEffect.{revert_takes_back_lem}
use Rattle.bep_machine.proofs.effects.revert_takes_back.Goals as goal

pub returns : goal.returns
returns c = revert_takes_back_lem
