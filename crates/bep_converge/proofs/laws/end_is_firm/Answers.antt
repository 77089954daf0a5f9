use Rattle.bep_converge.proofs.EndFirm.{end_is_firm_lem}
use Rattle.bep_converge.proofs.laws.end_is_firm.Goals as goal

pub returns : goal.returns
returns c = end_is_firm_lem
