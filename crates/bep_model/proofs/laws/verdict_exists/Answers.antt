use Rattle.bep_model.proofs.VerdictFound.{verdict_exists_lem}
use Rattle.bep_model.proofs.laws.verdict_exists.Goals as goal

pub returns : goal.returns
returns c = verdict_exists_lem (λ chooser candidates. (c.choice_exists.ensures chooser candidates).1) c.choice_is_unique.ensures
