use Rattle.bep_machine.proofs.RecordsEffect.{whole_is_announced, further_is_announced}
use Rattle.bep_machine.proofs.link_effects.records_are_announced.Goals as goal

pub returns-clause-whole : goal.returns-clause-whole
returns-clause-whole c = whole_is_announced

pub returns-clause-further : goal.returns-clause-further
returns-clause-further c = further_is_announced
