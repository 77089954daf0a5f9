use Rattle.std.proofs.Common.{subst}
use Rattle.bep_store.specs.Store.{AreNodes}
use Rattle.bep_store.proofs.mem_store.MemStoreStore.faults.Goals as goal

pub returns-clause-nodes : goal.returns-clause-nodes
returns-clause-nodes c = subst AreNodes c.self.view_is c.self.invariant.are_nodes
