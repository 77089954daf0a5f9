use Rattle.std.proofs.Common.{◌≡◌, ◌++◌, drop, map}
use Rattle.bep_audit.specs.Walk.{failure_shown}
use Rattle.bep_explain.specs.Unwon.{as_unwon}
use Rattle.bep_explain.proofs.unwon.all_unwon.Given as goal

-- those that are told, with those that are left, are all
abbrev pub invariant-loop-one : goal.invariant-loop-one
invariant-loop-one l = map failure_shown l.told.items ++ map as_unwon (map failure_shown (drop l.one-index l.found)) ≡ map as_unwon (map failure_shown l.found)
