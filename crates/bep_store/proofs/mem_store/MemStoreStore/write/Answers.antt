use Rattle.std.proofs.Common.{sym, subst}
use Rattle.bep_record.specs.Node.{IsNode}
use Rattle.bep_store.proofs.KeptFacts.{store_left, store_with}
use Rattle.bep_store.proofs.mem_store.MemStoreStore.write.Goals as goal

pub invariant_of-self : goal.invariant_of-self
invariant_of-self c =
    store_left c.self.inside.nodes c.insert.new.self c.self.inside.kept c.remove.new.self c.in_ok-key.key c.in_err-insert.ensures.err c.remove.ensures.removed c.self.invariant

pub invariant_of-self-2 : goal.invariant_of-self-2
invariant_of-self-2 c =
    store_with c.self.inside.nodes c.insert.new.self c.self.inside.kept c.remove.new.self c.in_ok-key.key c.in_ok-copy.copy c.in_ok-insert.ensures.ok
    c.remove.ensures.removed (subst IsNode (sym c.in_ok-copy.ensures) c.parts-parts.ensures.is_node) c.self.invariant
