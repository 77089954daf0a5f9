use Rattle.std.proofs.Common.{◌∙◌}
use Rattle.bep_scenario.proofs.told.Fresh.{share_is}
use Rattle.bep_scenario.proofs.fresh.shares.FreshSharePartsTaken.take.Goals as goal

pub returns-in-Ok-clause-value : goal.returns-in-Ok-clause-value
returns-in-Ok-clause-value c = λ d rest stood.
    let filled = c.in-Ok.ensures.value d rest stood in
    (c.share_told.ensures ∙ share_is _ d filled.0, filled.1)
