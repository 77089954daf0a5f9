use Rattle.bep_converge.proofs.EndFirm.{top_stays_lem}
use Rattle.bep_converge.proofs.laws.top_stays.Goals as goal

pub returns : goal.returns
returns c = top_stays_lem
