use Rattle.bep_model.specs.Tables.{Device}
use Rattle.bep_machine.specs.Said.{tables_of_cluster}
use Rattle.bep_peer.specs.network.Network.{cluster_of}
use Rattle.bep_rounds.specs.Finding.{IsUpTo}
use Rattle.bep_rounds.proofs.Walks.{SoBefore}
use Rattle.bep_rounds.proofs.behind.are_up_to.Given as goal

-- the devices so far have none beyond it
abbrev pub invariant-loop-other : goal.invariant-loop-other
invariant-loop-other g l = SoBefore (λ (device : Device). IsUpTo ((tables_of_cluster (cluster_of l.cluster)).own device l.folder l.top.name) l.top) l.others l.other-index
