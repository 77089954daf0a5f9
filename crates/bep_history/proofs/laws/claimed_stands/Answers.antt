use Rattle.bep_history.proofs.ClaimedStands.{claimed_stands_lem}
use Rattle.bep_history.proofs.laws.claimed_stands.Goals as goal

pub returns : goal.returns
returns c = claimed_stands_lem
