use Rattle.bep_converge_parts.proofs.Verdicts.{converge_verdict_by_parts_lem}
use Rattle.bep_converge_parts.proofs.laws.converge_verdict_by_parts.Goals as goal

pub returns : goal.returns
returns c = converge_verdict_by_parts_lem c.converging_is_faultless.ensures
