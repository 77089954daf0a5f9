use Rattle.bep_cut.proofs.OfClusterFacts.{are_parts}
use Rattle.bep_cut.proofs.laws.clusters_are_parts.Goals as goal

pub returns : goal.returns
returns c = λ network rules. are_parts c.sharing_is_having.ensures.sharing c.sharing_is_having.ensures.found c.tables_are_found.ensures.found network rules
