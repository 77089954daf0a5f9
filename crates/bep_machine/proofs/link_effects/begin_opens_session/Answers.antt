use Rattle.bep_machine.proofs.SessionEffect.{begin_opens}
use Rattle.bep_machine.proofs.link_effects.begin_opens_session.Goals as goal

pub returns : goal.returns
returns c = begin_opens
