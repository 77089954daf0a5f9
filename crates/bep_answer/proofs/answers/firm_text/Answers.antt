use Rattle.bep_answer.proofs.FirmSaid.{firm_answer}
use Rattle.bep_answer.proofs.answers.firm_text.Goals as goal

pub returns-clause-firm : goal.returns-clause-firm
returns-clause-firm g c =
    firm_answer c.firm_stays_firm.ensures c.firm_stays_put.ensures c.settled_stays_put.ensures c.settled_stays_settled.ensures _ _ _ _ c.in_ok-outcome.outcome c.in_ok-outcome.ensures.ok
