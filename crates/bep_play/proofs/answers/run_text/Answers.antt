use Rattle.bep_play.proofs.SettledEnd.{settled_end}
use Rattle.bep_play.proofs.answers.run_text.Goals as goal

pub returns-clause-settled : goal.returns-clause-settled
returns-clause-settled g c =
    settled_end c.settled_stays_put.ensures c.settled_stays_settled.ensures _ _ _ _ c.in_ok-outcome.outcome c.in_ok-outcome.ensures.ok
