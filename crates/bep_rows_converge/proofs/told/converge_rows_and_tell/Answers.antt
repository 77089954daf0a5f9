use Rattle.bep_rows_converge.proofs.Settled.{converging_rows}
use Rattle.bep_rows_converge.proofs.told.converge_rows_and_tell.Goals as goal

pub returns-clause-converging : goal.returns-clause-converging
returns-clause-converging g c = converging_rows c.prevailing_goes_on.ensures _ _ _ _ _ _ c.answer_convergence_and_tell.ensures.told
