use Rattle.bep_model.proofs.Verdicts.{number_within, same_from_number}
use Rattle.bep_model.proofs.laws.reasons_are_numbered.Goals as goal

pub returns-clause-within : goal.returns-clause-within
returns-clause-within c = number_within

pub returns-clause-different : goal.returns-clause-different
returns-clause-different c = same_from_number
