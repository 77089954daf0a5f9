use Rattle.std.proofs.Common.{◌∙◌, Ok, Err, ap}
use Rattle.bep_answer.specs.Status.{status_of}
use Rattle.bep_answer.specs.declared.outcome.Outcome.{Outcome}
use Rattle.bep_rows_answer.proofs.told.answer_and_tell.Goals as goal

pub returns-in-Ok-clause-told : goal.returns-in-Ok-clause-told
returns-in-Ok-clause-told g c = record {
  answer = Ok c.in-Ok.outcome;
  told = c.end.ensures.status ∙ ap (λ (outcome : Outcome). status_of (Ok outcome)) c.settled.ensures;
  done = c.in-Ok.ensures.ok;
}

pub returns-in-Err-clause-told : goal.returns-in-Err-clause-told
returns-in-Err-clause-told g c = record { answer = Err c.in-Err.error; told = c.end-in-Err.ensures.status; done = c.in-Err.ensures.err }
