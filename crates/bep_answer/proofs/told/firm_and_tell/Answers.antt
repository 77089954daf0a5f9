use Rattle.std.proofs.Common.{sym, ◌∙◌}
use Rattle.std.proofs.lemmas.Result.{IfOk-weaker}
use Rattle.bep_answer.proofs.FirmSaid.{firm_answer}
use Rattle.bep_answer.proofs.Statuses.{firm_by_status}
use Rattle.bep_answer.proofs.told.firm_and_tell.Goals as goal

pub returns-clause-firm : goal.returns-clause-firm
returns-clause-firm g c = λ zero.
    firm_by_status c.exchange.result
    (IfOk-weaker c.exchange.result _ _ (λ told whole. firm_answer c.firm_stays_firm.ensures c.firm_stays_put.ensures c.settled_stays_put.ensures c.settled_stays_settled.ensures _ _ _ _ told.0 whole) c.exchange.ensures.ok)
    (sym c.end_firm.ensures.status ∙ zero)

pub returns-clause-heard : goal.returns-clause-heard
returns-clause-heard g c = record { answer = c.exchange.result; told = c.end_firm.ensures.status; tells = c.exchange.ensures.beside; hears = c.end_firm.ensures.heard }
