use Rattle.bep_live.proofs.SettledLife.{settled_life}
use Rattle.bep_live.proofs.answers.live_text.Goals as goal

pub returns-clause-settled : goal.returns-clause-settled
returns-clause-settled g c = λ some.
    settled_life c.settled_stays_put.ensures c.settled_stays_settled.ensures _ _ _ _ c.in_ok-outcome.outcome c.in_ok-outcome.ensures.ok
