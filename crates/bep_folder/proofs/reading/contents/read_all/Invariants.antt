use Rattle.std.proofs.Common.{◌≡◌, take}
use Rattle.bep_facts.specs.Filled.{IsFilled}
use Rattle.bep_folder.proofs.reading.contents.read_all.Given as goal

-- the nodes of the names so far were read, and the store is as it was
abbrev pub invariant-loop-name : goal.invariant-loop-name
invariant-loop-name g l =
    IsFilled l.fn.store.contents (take l.name-index l.names) l.nodes × (l.store.contents ≡ l.fn.store.contents) × (l.store.faults ≡ l.fn.store.faults) × (l.store.trace ≡ l.fn.store.trace)
