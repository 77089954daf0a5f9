use Rattle.bep_machine.proofs.PullEffect.{finish_adopts_lem, finish_keeps_copy_lem}
use Rattle.bep_machine.proofs.effects.finish_adopts.Goals as goal

pub returns-clause-adopts : goal.returns-clause-adopts
returns-clause-adopts c = finish_adopts_lem c.merge_exists.ensures.exists c.cut_is_of_one_length.ensures

pub returns-clause-keeps : goal.returns-clause-keeps
returns-clause-keeps c = finish_keeps_copy_lem c.merge_exists.ensures.exists c.cut_is_of_one_length.ensures
