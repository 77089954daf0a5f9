use Rattle.bep_machine.proofs.PullEffect.{start_pull_begins_lem}
use Rattle.bep_machine.proofs.effects.start_pull_begins.Goals as goal

pub returns : goal.returns
returns c = start_pull_begins_lem
