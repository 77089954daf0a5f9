use Rattle.bep_answer.proofs.SettledSaid.{settled_answer}
use Rattle.bep_answer.proofs.answers.check_text.Goals as goal

pub returns-clause-settled : goal.returns-clause-settled
returns-clause-settled g c =
    settled_answer c.settled_stays_put.ensures c.settled_stays_settled.ensures _ _ _ _ c.in_ok-outcome.outcome c.in_ok-outcome.ensures.ok
