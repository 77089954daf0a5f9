use Rattle.bep_machine.proofs.PullEffect.{finish_drops_lem}
use Rattle.bep_machine.proofs.effects.finish_drops.Goals as goal

pub returns : goal.returns
returns c = finish_drops_lem
