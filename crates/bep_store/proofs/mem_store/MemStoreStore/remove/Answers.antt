use Rattle.bep_store.proofs.KeptFacts.{store_without}
use Rattle.bep_store.proofs.mem_store.MemStoreStore.remove.Goals as goal

pub invariant_of-self : goal.invariant_of-self
invariant_of-self c =
    store_without c.self.inside.nodes c.remove-2.new.self c.self.inside.kept c.remove.new.self c.args.name.now c.remove-2.ensures.removed c.remove.ensures.removed c.self.invariant
