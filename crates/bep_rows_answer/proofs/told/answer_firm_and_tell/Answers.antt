use Rattle.std.proofs.Common.{◌∙◌, Ok, Err, ap}
use Rattle.bep_answer.specs.Status.{firm_status_of}
use Rattle.bep_answer.specs.declared.outcome.Firmness.{Firmness}
use Rattle.bep_rows_answer.proofs.told.answer_firm_and_tell.Goals as goal

pub returns-in-Ok-clause-told : goal.returns-in-Ok-clause-told
returns-in-Ok-clause-told g c = record {
  answer = Ok c.in-Ok.outcome;
  told = c.end_firm.ensures.status ∙ ap (λ (outcome : Firmness). firm_status_of (Ok outcome)) c.firmness.ensures;
  done = c.in-Ok.ensures.ok;
}

pub returns-in-Err-clause-told : goal.returns-in-Err-clause-told
returns-in-Err-clause-told g c = record { answer = Err c.in-Err.error; told = c.end_firm-in-Err.ensures.status; done = c.in-Err.ensures.err }
