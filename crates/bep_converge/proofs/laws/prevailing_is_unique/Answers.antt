use Rattle.bep_converge.proofs.RunKept.{prevailing_is_unique_lem}
use Rattle.bep_converge.proofs.laws.prevailing_is_unique.Goals as goal

pub returns : goal.returns
returns c = prevailing_is_unique_lem
