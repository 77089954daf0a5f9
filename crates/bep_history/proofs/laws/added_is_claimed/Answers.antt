use Rattle.bep_history.proofs.AddedIsClaimed.{added_is_claimed_lem}
use Rattle.bep_history.proofs.laws.added_is_claimed.Goals as goal

pub returns : goal.returns
returns c = added_is_claimed_lem
