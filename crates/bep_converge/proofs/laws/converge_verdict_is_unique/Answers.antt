use Rattle.bep_converge.proofs.ConvergeVerdicts.{converge_verdict_is_unique_lem}
use Rattle.bep_converge.proofs.laws.converge_verdict_is_unique.Goals as goal

pub returns : goal.returns
returns c = converge_verdict_is_unique_lem
