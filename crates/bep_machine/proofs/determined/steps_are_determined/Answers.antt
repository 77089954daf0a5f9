use Rattle.bep_machine.proofs.OneOutcomeSteps.{steps_are_determined_lem}
use Rattle.bep_machine.proofs.determined.steps_are_determined.Goals as goal

pub returns : goal.returns
returns c = steps_are_determined_lem c.choice_is_unique.ensures c.merge_exists.ensures.unique c.bump_exists.ensures.unique
