use Rattle.bep_converge.proofs.ConvergeFaultless.{converging_is_faultless_lem}
use Rattle.bep_converge.proofs.laws.converging_is_faultless.Goals as goal

pub returns : goal.returns
returns c = converging_is_faultless_lem
