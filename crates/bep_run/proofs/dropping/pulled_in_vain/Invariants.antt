use Rattle.std.proofs.Common.{◌≡◌, fold, map}
use Rattle.std.specs.FinMap.{empty, keys}
use Rattle.bep_run.specs.inner.Dropping.{with_unwanted}
use Rattle.bep_run.proofs.dropping.pulled_in_vain.Given as goal

-- the names so far with those of the pulls that are left are all of them
abbrev pub invariant-loop-name : goal.invariant-loop-name
invariant-loop-name g l = fold (with_unwanted l.wanted) l.names (map (λ e. e.0) l.name-iterator) ≡ fold (with_unwanted l.wanted) empty (keys l.replica.tables.pulls)
