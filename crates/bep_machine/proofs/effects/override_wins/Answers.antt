use Rattle.bep_machine.proofs.OverrideEffect.{override_wins_lem}
use Rattle.bep_machine.proofs.effects.override_wins.Goals as goal

pub returns : goal.returns
returns c =
    override_wins_lem c.merge_exists.ensures.exists c.bump_exists.ensures.exists c.merge_is_least.ensures.second c.bump_is_above.ensures c.below_goes_on.ensures.from_below
