use Rattle.std.proofs.Common.{subst}
use Rattle.bep_store.specs.FaultStore.{Failing}
use Rattle.bep_store.specs.Store.{AreNodes}
use Rattle.bep_store.proofs.fault_store.FaultStoreStore.faults.Goals as goal

pub returns-clause-nodes : goal.returns-clause-nodes
returns-clause-nodes g c = subst (λ (store : Failing g.row.S.Denot). AreNodes (g.S.Store.contents store.inner)) c.self.view_is c.faults.ensures.nodes
