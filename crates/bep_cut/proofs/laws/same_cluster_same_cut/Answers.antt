use Rattle.bep_cut.proofs.SameCut.{same_cut}
use Rattle.bep_cut.proofs.laws.same_cluster_same_cut.Goals as goal

pub returns : goal.returns
returns c = same_cut c.sharing_is_having.ensures.found c.sharing_is_having.ensures.ends
