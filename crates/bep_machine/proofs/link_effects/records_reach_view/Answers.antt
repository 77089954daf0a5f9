use Rattle.bep_machine.proofs.RecordsEffect.{index_brings_view, update_adds_to_view}
use Rattle.bep_machine.proofs.link_effects.records_reach_view.Goals as goal

pub returns-clause-whole : goal.returns-clause-whole
returns-clause-whole c = index_brings_view c.records_make_an_index.ensures.found

pub returns-clause-further : goal.returns-clause-further
returns-clause-further c = update_adds_to_view c.batch_records_are_found.ensures.batch c.batch_records_are_found.ensures.others
