use Rattle.bep_converge.proofs.RevertTops.{revert_lets_in_lem}
use Rattle.bep_converge.proofs.after.revert_lets_in.Goals as goal

pub returns : goal.returns
returns c = revert_lets_in_lem c.revert_takes_back.ensures
