use Rattle.std.proofs.Common.{sym, ◌∙◌}
use Rattle.std.proofs.lemmas.Result.{IfOk-weaker}
use Rattle.bep_answer.proofs.Statuses.{settled_by_status}
use Rattle.bep_play.proofs.SettledEnd.{settled_end}
use Rattle.bep_play.proofs.told.run_and_tell.Goals as goal

pub returns-clause-settled : goal.returns-clause-settled
returns-clause-settled g c = λ zero.
    settled_by_status c.exchange.result
    (IfOk-weaker c.exchange.result _ _ (λ told whole. settled_end c.settled_stays_put.ensures c.settled_stays_settled.ensures _ _ _ _ told.0 whole) c.exchange.ensures.ok)
    (sym c.end.ensures.status ∙ zero)

pub returns-clause-heard : goal.returns-clause-heard
returns-clause-heard g c = record { answer = c.exchange.result; told = c.end.ensures.status; tells = c.exchange.ensures.beside; hears = c.end.ensures.heard }
