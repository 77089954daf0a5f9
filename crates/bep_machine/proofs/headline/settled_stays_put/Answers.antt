use Rattle.bep_machine.proofs.RunFacts.{settled_stays_put_lem}
use Rattle.bep_machine.proofs.headline.settled_stays_put.Goals as goal

pub returns : goal.returns
returns c =
    settled_stays_put_lem c.steps_keep_sound.ensures c.quiet_steps_keep_calm.ensures c.settled_is_calm.ensures c.calm_stays.ensures
