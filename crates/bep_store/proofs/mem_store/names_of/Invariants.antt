use Rattle.std.proofs.Common.{◌≡◌, ◌++◌, map}
use Rattle.std.specs.FinMap.{keys}
use Rattle.bep_store.proofs.mem_store.names_of.Given as goal

-- the names so far with those that are left are all of them
abbrev pub invariant-loop-name : goal.invariant-loop-name
invariant-loop-name l = l.names.items ++ map (λ e. e.0) l.name-iterator ≡ keys l.nodes
