use Rattle.std.proofs.Common.{sym, subst}
use Rattle.bep_store.specs.Store.{AreNodes}
use Rattle.bep_store.specs.Kept.{AreRanges}
use Rattle.bep_store.proofs.KeptFacts.{no_ranges}
use Rattle.bep_store.proofs.NodeFacts.{no_nodes}
use Rattle.bep_store.proofs.mem_store.MemStore.new.Goals as goal

pub invariant_of-result : goal.invariant_of-result
invariant_of-result c = record {
  are_nodes = subst AreNodes (sym c.new.ensures) no_nodes;
  are_ranges = subst (AreRanges c.new.result) (sym c.new-2.ensures) (no_ranges c.new.result);
}
