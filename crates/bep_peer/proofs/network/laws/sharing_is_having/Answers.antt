use Rattle.bep_peer.proofs.network.Ends.{found_by_their_ends}
use Rattle.bep_peer.proofs.network.HavingFacts.{found_each, sharing_is_having}
use Rattle.bep_peer.proofs.network.laws.sharing_is_having.Goals as goal

pub returns : goal.returns
returns c = record { sharing = sharing_is_having; found = found_each; ends = found_by_their_ends }
