use Rattle.std.proofs.Common.{subst}
use Rattle.bep_store.specs.Store.{AreNodes}
use Rattle.bep_folder.specs.Trace.{TracedStore}
use Rattle.bep_folder.proofs.traced.Traced.nodes_are_kept.Goals as goal

pub returns : goal.returns
returns g c = subst (λ (traced : TracedStore). AreNodes traced.contents) c.self.view_is c.faults.ensures.nodes
