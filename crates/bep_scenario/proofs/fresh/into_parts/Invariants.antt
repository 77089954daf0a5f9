use Rattle.std.proofs.Common.{◌≡◌, ◌++◌}
use Rattle.bep_scenario.proofs.fresh.into_parts.Given as goal

-- the parts so far with those that are left are all of them
abbrev pub invariant-loop-one : goal.invariant-loop-one
invariant-loop-one g l = l.parts.items ++ l.one-iterator.rest.items ≡ l.fn.fresh
