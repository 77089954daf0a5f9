use Rattle.bep_model.proofs.Verdicts.{verdict_is_unique_lem}
use Rattle.bep_model.proofs.laws.verdict_is_unique.Goals as goal

pub returns : goal.returns
returns c = verdict_is_unique_lem
