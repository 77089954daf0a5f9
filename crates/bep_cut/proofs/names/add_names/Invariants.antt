use Rattle.std.proofs.Common.{◌≡◌, map}
use Rattle.std.specs.FinMap.{keys}
use Rattle.bep_tables.specs.Names.{with_names}
use Rattle.bep_cut.proofs.names.add_names.Given as goal

-- the names so far with those that are left are all of them
abbrev pub invariant-loop-name : goal.invariant-loop-name
invariant-loop-name g l = with_names l.names (map (λ e. e.0) l.name-iterator) ≡ with_names l.initial.names (keys l.held)
