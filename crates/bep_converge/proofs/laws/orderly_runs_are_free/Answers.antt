use Rattle.bep_converge.proofs.RunKept.{orderly_runs_are_free_lem}
use Rattle.bep_converge.proofs.laws.orderly_runs_are_free.Goals as goal

pub returns : goal.returns
returns c = orderly_runs_are_free_lem
