use Rattle.bep_cut.proofs.AgreedParts.{network_agrees}
use Rattle.bep_cut.proofs.SaidFacts.{cut_says}
use Rattle.bep_cut.proofs.laws.cut_says_cluster.Goals as goal

pub returns : goal.returns
returns c = λ network rules sound. cut_says network (network_agrees c.sharing_is_having.ensures.found network rules) sound
