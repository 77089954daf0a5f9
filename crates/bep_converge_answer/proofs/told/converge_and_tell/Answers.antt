use Rattle.std.proofs.Common.{sym, ◌∙◌}
use Rattle.std.proofs.lemmas.Result.{IfOk-weaker}
use Rattle.bep_converge_answer.proofs.ConvergingSaid.{converging_answer, converging_by_status}
use Rattle.bep_converge_answer.proofs.told.converge_and_tell.Goals as goal

pub returns-clause-converging : goal.returns-clause-converging
returns-clause-converging g c = λ zero.
    converging_by_status c.exchange.result
    (IfOk-weaker c.exchange.result _ _ (λ told whole. converging_answer c.prevailing_goes_on.ensures _ _ _ _ told.0 whole) c.exchange.ensures.ok)
    (sym c.end_converge.ensures.status ∙ zero)

pub returns-clause-heard : goal.returns-clause-heard
returns-clause-heard g c = record { answer = c.exchange.result; told = c.end_converge.ensures.status; tells = c.exchange.ensures.beside; hears = c.end_converge.ensures.heard }
