use Rattle.std.proofs.Common.{rules, ◌≤◌, refl, sym, subst}
use Rattle.std.specs.FinMap.{get}
use Rattle.bep_map.specs.NameMap.{ByName}
use Rattle.bep_record.specs.declared.limits.TheConstants.{MAX_NANOSECONDS}
use Rattle.bep_record.specs.declared.node.NodeParts.{NodeParts}
use Rattle.bep_store.specs.Store.{AreNodes}
use Rattle.bep_store.specs.Kept.{AreRanges}
use Rattle.bep_store.proofs.KeptFacts.{ranges_at_time}
use Rattle.bep_store.proofs.NodeFacts.{nodes_at_time}
use Rattle.bep_store.proofs.mem_store.MemStoreStore.set_time.Goals as goal

pub invariant_of-self : goal.invariant_of-self
invariant_of-self c =
    let few : c.args.nanoseconds ≤ MAX_NANOSECONDS = search rules in
    record {
      are_nodes =
          subst AreNodes (sym c.set_node_time.ensures)
          (nodes_at_time c.self.inside.nodes c.args.name.now (get c.self.inside.nodes c.args.name.now) _ c.args.nanoseconds refl few c.self.invariant.are_nodes);
      are_ranges =
          subst (λ (nodes : ByName NodeParts). AreRanges nodes c.self.inside.kept) (sym c.set_node_time.ensures)
          (ranges_at_time c.self.inside.nodes c.self.inside.kept c.args.name.now (get c.self.inside.nodes c.args.name.now) _ c.args.nanoseconds refl c.self.invariant.are_ranges);
    }
