use Rattle.bep_converge.proofs.CutReached.{cuts_are_reached_lem}
use Rattle.bep_converge.proofs.bring.cuts_are_reached.Goals as goal

pub returns : goal.returns
returns c = cuts_are_reached_lem
