use Rattle.std.proofs.Common.{◌∙◌, Ok, Err, ap}
use Rattle.bep_converge_answer.specs.Status.{converge_status_of}
use Rattle.bep_converge_answer.specs.declared.outcome.Convergence.{Convergence}
use Rattle.bep_rows_converge.proofs.told.answer_convergence_and_tell.Goals as goal

pub returns-in-Ok-clause-told : goal.returns-in-Ok-clause-told
returns-in-Ok-clause-told g c = record {
  answer = Ok c.in-Ok.outcome;
  told = c.end_converge.ensures.status ∙ ap (λ (outcome : Convergence). converge_status_of (Ok outcome)) c.convergence_of.ensures;
  done = c.in-Ok.ensures.ok;
}

pub returns-in-Err-clause-told : goal.returns-in-Err-clause-told
returns-in-Err-clause-told g c = record { answer = Err c.in-Err.error; told = c.end_converge-in-Err.ensures.status; done = c.in-Err.ensures.err }
